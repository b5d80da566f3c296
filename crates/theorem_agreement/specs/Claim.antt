-- Demand 3's claim about a whole list of calls, and facts beyond it.
use Rattle.std.specs.Prelude.{ℕ, ◌+◌, ◌*◌, ◌≤◌, ◌<◌, ◌≡◌, ◌⊎◌, ◌≢◌, List, [], ◌++◌, Bool, true}
use Rattle.std.proofs.Math.Option.{some}
use Rattle.apollo.specs.declared.Setup.{Setup}
use Rattle.apollo.specs.Setup.{setup, replicas, leader, valid_rotation}
use Rattle.apollo.specs.Frame.{kind, round}
use Rattle.apollo.specs.Log.{slot, filled}
use Rattle.apollo.specs.Replica.{valid_replica, valid_masks}
use Rattle.apollo.specs.Enter.{State}
use Rattle.apollo.specs.Committed.{committed, Begins}
use Rattle.apollo.specs.Calls.{open_call}
use Rattle.apollo.specs.Refusal.{bad_replica, bad_length, reverts_committed}
use Rattle.theorem_agreement.specs.Run.{Act, Call, emitted, answered, In, World, present, start, frames_in, answer, run}
use Rattle.theorem_agreement.specs.Premises.{Each, Lawful, Premises}
use Rattle.theorem_agreement.specs.Cases.{OfLawful, OfPremises, EachState, TwoStates}

-- the claim, of the world that the list leaves
pub record Agreed (correct : ℕ → Bool) (w : World) : Type 0 where
  -- of any two committed lists one begins the other
  pub prefixes : (i j : ℕ) (c d : State) → w.states i ≡ some c → w.states j ≡ some d
      → Begins (committed c) (committed d) ⊎ Begins (committed d) (committed c)
  -- no call met refusal 12
  pub kept : In (answered reverts_committed) w.past → ⊥
  -- a block that a correct replica emitted stands in the chain of every replica that has a block of that round or a later one
  pub stands : (i j : ℕ) (x : List ℕ) (c : State) (q : ℕ) → correct i ≡ true → In (emitted i x) w.past → kind x ≡ 1
      → w.states j ≡ some c → round x ≤ q → filled (slot c.log q) ≡ true → slot c.log (round x) ≡ x

-- Demand 3
abbrev pub Agreement : Type 0
Agreement =
    (s : Setup) (correct : ℕ → Bool) (calls : List (ℕ × Call)) → Premises s correct calls → Agreed correct (run start calls)

-- The same in document 01's own words. The list has "the calls at all sound cards", so all that open in it are counted as correct, and the
-- claim is about the blocks of all; "each number below n that no sound card bears counts as one of the other cards, a missing card's too".
abbrev pub AllCorrect : Type 0
AllCorrect =
    (s : Setup) (calls : List (ℕ × Call)) → Premises s (present (run start calls)) calls → Agreed (λ i. true) (run start calls)

-- The claim is about the world after the last call. A beginning of a list that meets the premises meets them too, so the claim, and all
-- that follows from the premises, holds after each call of the list
abbrev pub Beginnings : Type 0
Beginnings =
    (s : Setup) (correct : ℕ → Bool) (calls more : List (ℕ × Call)) → Premises s correct (calls ++ more) → Premises s correct calls

-- Beyond demand 3, with its premises: of two replicas the list of the one whose R is not the higher begins the other's, so at one R,
-- as at the end of a term, all lists are the same
abbrev pub ByRound : Type 0
ByRound =
    OfPremises (λ s calls. TwoStates calls (λ c d.
    (c.replica.round.0 ≤ d.replica.round.0 → Begins (committed c) (committed d))
    × (c.replica.round.0 ≡ d.replica.round.0 → committed c ≡ committed d)))

-- and R is at most 2f + 1 above the committed round
abbrev pub Near : Type 0
Near =
    OfPremises (λ s calls. EachState calls (λ c. c.replica.round.0 ≤ c.replica.committed_round.0 + 2 * s.f + 1))

-- Beyond demand 3, with no premise about honesty or names: no state meets refusal 2, of these calls or of read and fetch
pub record Valid (w : World) : Type 0 where
  -- the record of each replica is valid with its log and its masks
  pub states : (i : ℕ) (c : State) → w.states i ≡ some c
      → (valid_replica c.replica c.log ≡ true) × (valid_masks c.replica c.masks ≡ true)
  -- so no call of the list met it
  pub answers : In (answered bad_replica) w.past → ⊥

abbrev pub NeverInvalid : Type 0
NeverInvalid = OfLawful (λ s calls. Valid (run start calls))

-- and a replica's committed list only ever grows, whatever anyone sent
abbrev pub OnlyGrows : Type 0
OnlyGrows =
    (s : Setup) (calls more : List (ℕ × Call)) → Each (Lawful s) start (calls ++ more)
    → (i : ℕ) (c : State) → (run start calls).states i ≡ some c
    → (d : State) × ((run start (calls ++ more)).states i ≡ some d) × Begins (committed c) (committed d)

-- The frames of a buffer that a call refuses with 6 are not handed in: what `Unforged` and `Distinct` presume does not speak of them.
abbrev pub CutHandsNothing : Type 0
CutHandsNothing = (c : State) (a : Act) → (answer c a).answer.number ≡ bad_length → frames_in c a ≡ []

-- Document 02, F-4: "f + 1 rounds in a row have different leaders", and n even do
abbrev pub DifferentLeaders : Setup → Type 0
DifferentLeaders s = (r q : ℕ) → 1 ≤ r → r < q → q < r + replicas s → leader s r ≢ leader s q

-- It is one law for every n and every rotation that passes 17 at open and 2 later, and no list of calls is in it
abbrev pub LeadersDiffer : Type 0
LeadersDiffer = (s : Setup) → valid_rotation s ≡ true → DifferentLeaders s

-- so for the rotation that is lent to any open that is taken
abbrev pub OpenedLeadersDiffer : Type 0
OpenedLeadersDiffer =
    (id f timeout last_round : ℕ) (rotation log masks entry out : List ℕ)
    → (open_call id f timeout last_round rotation log masks entry out).answer.number ≡ 0
    → DifferentLeaders (setup f last_round rotation)
