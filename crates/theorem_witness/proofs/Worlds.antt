-- Lists of calls that are all taken, each lawful and with nothing forged, and the worlds that they go through. Assumes nothing.
use Prim.Native.Nat.{ℕ}
use mathlib.Core.Path.{◌≡◌, refl, sym, ap, ap₂, ◌∙◌, subst}
use mathlib.Core.Logic.{inl, inr}
use mathlib.Core.Option.{none, some}
use mathlib.Core.List.{List, [], ◌∷◌, ◌++◌}
use mathlib.Core.Bool.{Bool, true, false, cond}
use lib.Dec.{eqb}
use Rattle.sha256.specs.Fips.{sha256}
use Rattle.apollo.specs.declared.Replica.{Replica}
use Rattle.apollo.specs.declared.Setup.{Setup}
use Rattle.apollo.specs.Rotation.{padded}
use Rattle.apollo.specs.Frame.{signer, frames, checked}
use Rattle.apollo.specs.Enter.{State, state}
use Rattle.apollo.specs.Outcome.{Outcome, taken}
use Rattle.apollo.specs.Equivocation.{marked}
use Rattle.apollo.specs.Calls.{open_call, equivocation_call}
use Rattle.apollo.proofs.Tests.{cond_true}
use Rattle.theorem_agreement.proofs.Tests.{clash}
use Rattle.theorem_agreement.specs.Run.{Act, equivocation, Call, opening, act, Event, handed, emitted, answered, In, World, frames_in, hand, emit, emitted_by, note, after, opened, record_only, answer, call_at, step, run}
use Rattle.theorem_agreement.specs.Premises.{Each, Lawful, Unforged}
use Rattle.theorem_agreement.proofs.Frames.{Whole, frames_flatten}
use Rattle.theorem_witness.proofs.Answers.{out, made}

-- the past after frames with a right check were handed in
unfoldable pub given : List (List ℕ) → List Event → List Event
given [] past = past
given (x ∷ xs) past = given xs (handed x ∷ past)

-- the world after a call at replica i that is taken: the frames handed in, the state left, the frames emitted
unfoldable pub next : World → (i : ℕ) (frames : List (List ℕ)) → State → (emitted : List (List ℕ)) → World
next w i xs c ys =
    record {
      states = λ j. cond (eqb i j) (some c) (w.states j);
      past = answered 0 ∷ emit i ys (given xs w.past);
    }

-- every frame has a right check
abbrev pub Checked : List (List ℕ) → Type 0
Checked [] = Unit {0}
Checked (x ∷ xs) = (checked sha256 x ≡ true) × Checked xs

hand_given : (xs : List (List ℕ)) (past : List Event) → Checked xs → hand xs past ≡ given xs past
unfolding hand given
hand_given [] past k = refl
hand_given (x ∷ xs) past k = ap (hand xs) (cond_true _ _ k.0) ∙ hand_given xs (handed x ∷ past) k.1

after_made : (w : World) (i : ℕ) (c : State) (ys : List (List ℕ)) → Whole ys → after w i (made c ys) ≡ next w i [] c ys
unfolding after note emitted_by made taken next given
after_made w i c ys whole =
    ap (λ zs. record { states = λ j. cond (eqb i j) (some c) (w.states j); past = answered 0 ∷ emit i zs w.past })
    (frames_flatten ys _ whole)

opened_so : (w : World) (i id f timeout last : ℕ) (rotation log masks entry : List ℕ) (c : State) (ys : List (List ℕ))
    → open_call id f timeout last rotation log masks entry out ≡ made c ys → Whole ys
    → step w i (opening id f timeout last rotation log masks entry out) ≡ next w i [] c ys
unfolding step call_at opened made taken
opened_so w i id f timeout last rotation log masks entry c ys e whole = ap (opened w i) e ∙ after_made w i c ys whole

-- what a taken outcome leaves is known for every world
acted : (w : World) (i : ℕ) (a : Act) (c d : State) (o : Outcome) (xs ys : List (List ℕ)) → w.states i ≡ some c → frames_in c a ≡ xs
    → Checked xs → answer c a ≡ o → ((u : World) → after u i o ≡ next u i [] d ys) → step w i (act a) ≡ next w i xs d ys
unfolding step call_at next given
acted w i a c d o xs ys at hands right e left =
    ap (λ o. call_at w i o (act a)) at
    ∙ ap₂ (λ past o. after (record { states = w.states; past = past }) i o)
    (ap (λ zs. hand zs w.past) hands ∙ hand_given xs w.past right) e
    ∙ left (record { states = w.states; past = given xs w.past })

after_marked : (u : World) (i : ℕ) (c : State) (r : Replica)
    → after u i (record_only c (marked 0 0 r)) ≡ next u i [] (state r c.log c.masks) []
unfolding after note emitted_by frames emit record_only next given
after_marked u i c r = refl

-- each of some frames was emitted before, by the replica that it names
abbrev pub Earlier : World → List (List ℕ) → Type 0
Earlier w [] = Unit {0}
Earlier w (x ∷ xs) = In (emitted (signer x) x) w.past × Earlier w xs

earlier : (w : World) (xs : List (List ℕ)) → Earlier w xs → (x : List ℕ) → In x xs → In (emitted (signer x) x) w.past
earlier w [] h x p = absurd p
earlier w (y ∷ ys) h x (inl e) = subst (λ z. In (emitted (signer z) z) w.past) (sym e) h.0
earlier w (y ∷ ys) h x (inr p) = earlier w ys h.1 x p

module _ (s : Setup) (correct : ℕ → Bool) where
  -- no frame names a correct signer
  abbrev pub Others : List (List ℕ) → Type 0
  Others [] = Unit {0}
  Others (x ∷ xs) = (correct (signer x) ≡ false) × Others xs

  other : (xs : List (List ℕ)) → Others xs → (x : List ℕ) → In x xs → correct (signer x) ≡ false
  other [] h x p = absurd p
  other (y ∷ ys) h x (inl e) = ap (λ z. correct (signer z)) e ∙ h.0
  other (y ∷ ys) h x (inr p) = other ys h.1 x p

  -- a list of calls that leads from one world to another, each call lawful and with nothing forged
  pub data Goes : World → List (ℕ × Call) → World → Type 0 where
    stay : {w : World} → Goes w [] w
    go : {w u v : World} {i : ℕ} {d : Call} {es : List (ℕ × Call)} → Lawful s w i d → Unforged s correct w i d → step w i d ≡ u
        → Goes u es v → Goes w ((i, d) ∷ es) v

  -- one list after another
  pub then : {w u v : World} {es fs : List (ℕ × Call)} → Goes w es u → Goes u fs v → Goes w (es ++ fs) v
  then stay k = k
  then (go l h e g) k = go l h e (then g k)

  pub goes : {w v : World} {es : List (ℕ × Call)} → Goes w es v → run w es ≡ v
  unfolding run
  goes stay = refl
  goes (go {es} l h e g) = ap (λ u. run u es) e ∙ goes g

  pub lawful : {w v : World} {es : List (ℕ × Call)} → Goes w es v → Each (Lawful s) w es
  lawful stay = tt
  lawful (go {es} l h e g) = (l, subst (λ u. Each (Lawful s) u es) (sym e) (lawful g))

  pub unforged : {w v : World} {es : List (ℕ × Call)} → Goes w es v → Each (Unforged s correct) w es
  unforged stay = tt
  unforged (go {es} l h e g) = (h, subst (λ u. Each (Unforged s correct) u es) (sym e) (unforged g))

  module _ (w : World) (i : ℕ) {v : World} {es : List (ℕ × Call)} where
    -- an open that is taken comes first
    pub opens : (timeout : ℕ) (rotation log masks entry : List ℕ) (c : State) (ys : List (List ℕ)) → w.states i ≡ none
        → padded rotation ≡ s.rotation → open_call i s.f timeout s.last_round.0 rotation log masks entry out ≡ made c ys → Whole ys
        → Goes (next w i [] c ys) es v → Goes w ((i, opening i s.f timeout s.last_round.0 rotation log masks entry out) ∷ es) v
    opens timeout rotation log masks entry c ys new turn e whole =
        go {d = opening i s.f timeout s.last_round.0 rotation log masks entry out} (λ _. (new, refl, refl, refl, turn)) tt
        (opened_so w i i s.f timeout s.last_round.0 rotation log masks entry c ys e whole)

    -- any other call
    pub acts : (a : Act) (c d : State) (xs ys : List (List ℕ)) → w.states i ≡ some c → frames_in c a ≡ xs → Checked xs → Earlier w xs
        → answer c a ≡ made d ys → Whole ys → Goes (next w i xs d ys) es v → Goes w ((i, act a) ∷ es) v
    acts a c d xs ys at hands right old e whole =
        go {d = act a} (c, at) honest (acted w i a c d (made d ys) xs ys at hands right e (λ u. after_made u i d ys whole))
      where
        honest : Unforged s correct w i (act a)
        honest b x f p r l k =
            let q : c ≡ b = cc in
            earlier w xs old x (subst (In x) (ap (λ u. frames_in u a) (sym q) ∙ hands) p)

    -- two frames of other signers than correct ones, by which a card is marked
    pub marks : (bytes : List ℕ) (c : State) (m : Replica) (xs : List (List ℕ)) → w.states i ≡ some c
        → frames_in c (equivocation bytes) ≡ xs → Checked xs → Others xs → equivocation_call c.replica bytes ≡ marked 0 0 m
        → Goes (next w i xs (state m c.log c.masks) []) es v → Goes w ((i, act (equivocation bytes)) ∷ es) v
    marks bytes c m xs at hands right others e =
        go {d = act (equivocation bytes)} (c, at) honest
        (acted w i (equivocation bytes) c (state m c.log c.masks) (record_only c (marked 0 0 m)) xs [] at hands right
        (unfold answer in ap (record_only c) e) (λ u. after_marked u i c m))
      where
        honest : Unforged s correct w i (act (equivocation bytes))
        honest b x f p r l k =
            let q : c ≡ b = cc in
            absurd (clash k (other xs others x (subst (In x) (ap (λ u. frames_in u (equivocation bytes)) (sym q) ∙ hands) p)))
