-- What demand 3 presumes of a list of calls; document 01's terms are in quotes.
use Rattle.std.specs.Prelude.{ℕ, ◌≤◌, ◌<◌, ◌≡◌, ◌⊎◌, List, [], ◌∷◌, Bool, true, false, not}
use Rattle.std.proofs.Math.Option.{none, some}
use Rattle.sha256.specs.Fips.{sha256}
use Rattle.apollo.specs.declared.Setup.{Setup}
use Rattle.apollo.specs.Rotation.{padded}
use Rattle.apollo.specs.Setup.{replicas, leader}
use Rattle.apollo.specs.Frame.{kind, signer, round, digest, checked}
use Rattle.apollo.specs.Masks.{count}
use Rattle.apollo.specs.Log.{genesis}
use Rattle.apollo.specs.Enter.{State}
use Rattle.apollo.specs.Calls.{open_call}
use Rattle.theorem_agreement.specs.Run.{Call, opening, act, Event, emitted, In, Seen, World, start, frames_in, step, run}

-- P holds of each call, in the world before it
abbrev pub Each : (World → ℕ → Call → Type 0) → World → List (ℕ × Call) → Type 0
Each P w [] = Unit {0}
Each P w (e ∷ es) = P w e.0 e.1 × Each P (step w e.0 e.1) es

-- no two different frames share a digest (name), among all that were "put out", all "handed in with a right check", and the genesis
abbrev pub Distinct : List Event → Type 0
Distinct past = (x y : List ℕ) → (x ≡ genesis) ⊎ Seen x past → (y ≡ genesis) ⊎ Seen y past → digest x ≡ digest y → x ≡ y

-- s is the set-up that all replicas share
module _ (s : Setup) where
  -- What makes a card "sound", of one call at replica i: an open that is taken is its first, under its own number i and with the
  -- common f, T and rotation ("Sound cards also share one seating", document 02, F-4); any other call finds it opened. A refused open
  -- counts for nothing. That each call gets the state that the last one left is the definition of `step`.
  abbrev pub Lawful : World → ℕ → Call → Type 0
  Lawful w i (opening id f timeout last_round rotation log masks entry out) =
      (open_call id f timeout last_round rotation log masks entry out).answer.number ≡ 0
      → (w.states i ≡ none) × (id ≡ i) × (f ≡ s.f) × (last_round ≡ s.last_round.0)
      × (padded rotation ≡ s.rotation)
  Lawful w i (act a) = (c : State) × (w.states i ≡ some c)

  -- The replicas counted as correct ("sound"). Others may take part in the list if they keep the rules above; in document 01's own
  -- form of demand 3 all that take part are counted (`AllCorrect`).
  module _ (correct : ℕ → Bool) where
    -- at most f of the numbers below n are not a correct replica's: those are "the other cards", missing ones too
    abbrev pub Mostly : Type 0
    Mostly = count (replicas s) (λ i. not (correct i)) ≤ s.f

    -- nothing is "forged": a frame handed in with a right check that names a correct signer was emitted by it earlier
    abbrev pub Unforged : World → ℕ → Call → Type 0
    Unforged w i (opening id f timeout last_round rotation log masks entry out) = Unit {0}
    Unforged w i (act a) =
        (c : State) (x : List ℕ) → w.states i ≡ some c → In x (frames_in c a) → checked sha256 x ≡ true → signer x < replicas s
        → correct (signer x) ≡ true → In (emitted (signer x) x) w.past

    -- no correct replica "blamed" (emitted a blame for) a round whose leader is correct
    abbrev pub Patient : World → Type 0
    Patient w =
        (i : ℕ) (x : List ℕ) → correct i ≡ true → In (emitted i x) w.past → kind x ≡ 2 → correct (leader s (round x)) ≡ false

-- all of it, of a list of calls
pub record Premises (s : Setup) (correct : ℕ → Bool) (calls : List (ℕ × Call)) : Type 0 where
  pub lawful : Each (Lawful s) start calls
  pub mostly : Mostly s correct
  pub unforged : Each (Unforged s correct) start calls
  pub distinct : Distinct (run start calls).past
  pub patient : Patient s correct (run start calls)
