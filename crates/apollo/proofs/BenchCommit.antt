-- Items 1 to 5 of the bench sheet: leaders, commit, certified rounds. Assumes nothing.
use Prim.Native.Nat.{ℕ}
use mathlib.Core.Path.{◌≡◌, refl}
use mathlib.Core.List.{List, [], ◌∷◌, ◌++◌}
use mathlib.Core.Bool.{Bool, true, false, cond}
use Rattle.apollo.specs.declared.Replica.{Replica}
use Rattle.apollo.specs.Bytes.{number4, zeros}
use Rattle.apollo.specs.declared.Setup.{Setup}
use Rattle.apollo.specs.Rotation.{in_turn, padded}
use Rattle.apollo.specs.Setup.{leader, setup}
use Rattle.apollo.specs.Log.{genesis, slot, filled, highest}
use Rattle.apollo.specs.Masks.{bit, count, mask, certified}
use Rattle.apollo.specs.Enter.{commit_limit, commit}
use Rattle.apollo.specs.BenchSheet.{turn, chain_rounds, committed_round, committed_height}

pub leaders : (T : ℕ)
    → (leader (setup 1 T (turn 1)) 1 ≡ 0) × (leader (setup 1 T (turn 1)) 3 ≡ 2) × (leader (setup 1 T (turn 1)) 4 ≡ 0)
    × (leader (setup 7 T (turn 7)) 16 ≡ 0)
unfolding leader padded in_turn zeros
leaders T = (refl, refl, refl, refl)

-- two, three and four slots, by whether each is filled
two : Bool → Bool → List ℕ
two a b = ([] ++ cond a (1 ∷ []) []) ++ cond b (2 ∷ []) []

three : Bool → Bool → Bool → List ℕ
unfolding two
three a b c = two a b ++ cond c (3 ∷ []) []

four : Bool → Bool → Bool → Bool → List ℕ
unfolding three
four a b c d = three a b c ++ cond d (4 ∷ []) []

one_two : (a b : Bool) → two a b ≡ 1 ∷ 2 ∷ [] → ◌≡◌ {A = ℕ} (cond a 1 0) 1
unfolding two
one_two true b e = refl
one_two false true e = cc
one_two false false e = cc

one_three : (a b c : Bool) → three a b c ≡ 1 ∷ 3 ∷ [] → ◌≡◌ {A = ℕ} (cond b 2 (cond a 1 0)) 1
unfolding three
one_three true true true e = cc
one_three true true false e = cc
one_three true false c e = refl
one_three false true true e = cc
one_three false true false e = cc
one_three false false true e = cc
one_three false false false e = cc

all_three : (a b c : Bool) → three a b c ≡ 1 ∷ 2 ∷ 3 ∷ [] → (a ≡ true) × (b ≡ true)
unfolding three
all_three true true c e = (refl, refl)
all_three true false true e = (refl, cc)
all_three true false false e = (refl, cc)
all_three false true true e = (cc, refl)
all_three false true false e = (cc, refl)
all_three false false true e = (cc, cc)
all_three false false false e = (cc, cc)

three_last : (a b c d : Bool) → four a b c d ≡ 1 ∷ 3 ∷ [] → (c ≡ true) × (d ≡ false)
unfolding four
three_last a b true false e = (refl, refl)
three_last true true true true e = (refl, cc)
three_last true false true true e = (refl, cc)
three_last false true true true e = (refl, cc)
three_last false false true true e = (refl, cc)
three_last true true false true e = (cc, cc)
three_last true false false true e = (cc, cc)
three_last false true false true e = (cc, cc)
three_last false false false true e = (cc, cc)
three_last true true false false e = (cc, refl)
three_last true false false false e = (cc, refl)
three_last false true false false e = (cc, refl)
three_last false false false false e = (cc, refl)

-- of a chain 1, 3 below R = 5 slot 3 is filled and slot 4 is not
pub third_filled : (log : List ℕ) → chain_rounds log 4 ≡ 1 ∷ 3 ∷ [] → (filled (slot log 3) ≡ true) × (filled (slot log 4) ≡ false)
unfolding chain_rounds four
third_filled log e = three_last (filled (slot log 1)) (filled (slot log 2)) (filled (slot log 3)) (filled (slot log 4)) e

-- of a chain 1, 2, 3 the slots 1 and 2 are filled
pub slots_filled : (log : List ℕ) → chain_rounds log 3 ≡ 1 ∷ 2 ∷ 3 ∷ []
    → (filled (slot log 1) ≡ true) × (filled (slot log 2) ≡ true)
unfolding chain_rounds three
slots_filled log e = all_three (filled (slot log 1)) (filled (slot log 2)) (filled (slot log 3)) e

pub chain_1_2 : (r : Replica) (log : List ℕ) → r.f ≡ 1 → r.round.0 ≡ 3 → chain_rounds log 2 ≡ 1 ∷ 2 ∷ []
    → committed_round r log ≡ 1
unfolding chain_rounds commit commit_limit highest two
chain_1_2 r log f t e = simp (t, f) (one_two (filled (slot log 1)) (filled (slot log 2)) e)

pub chain_1 : (r : Replica) (log : List ℕ) → r.f ≡ 1 → r.round.0 ≡ 2
    → (committed_round r log ≡ 0) × (committed_height r log ≡ 0)
unfolding commit commit_limit highest slot genesis number4 zeros
chain_1 r log f t = (simp (t, f), simp (t, f))

pub chain_1_3 : (r : Replica) (log : List ℕ) → r.f ≡ 1 → r.round.0 ≡ 4 → chain_rounds log 3 ≡ 1 ∷ 3 ∷ []
    → committed_round r log ≡ 1
unfolding chain_rounds commit commit_limit highest three
chain_1_3 r log f t e = simp (t, f) (one_three (filled (slot log 1)) (filled (slot log 2)) (filled (slot log 3)) e)

-- with R = 5, and with R = 6 and round 4 skipped
pub commits_3 : (r : Replica) (log : List ℕ) → r.f ≡ 1 → r.round.0 ≡ 5 → filled (slot log 3) ≡ true → committed_round r log ≡ 3
unfolding commit commit_limit highest
commits_3 r log f t e = simp (t, f, e)

pub commits_3_led : (r : Replica) (log : List ℕ) → r.f ≡ 1 → r.round.0 ≡ 6 → filled (slot log 3) ≡ true
    → filled (slot log 4) ≡ false → committed_round r log ≡ 3
unfolding commit commit_limit highest
commits_3_led r log f t e g = simp (t, f, e, g)

pub chain_1_2_3 : (r : Replica) (log : List ℕ) → r.f ≡ 2 → r.round.0 ≡ 4 → chain_rounds log 3 ≡ 1 ∷ 2 ∷ 3 ∷ []
    → committed_round r log ≡ 1
unfolding commit commit_limit highest
chain_1_2_3 r log f t e = simp (t, f, (slots_filled log e).0)

-- item 10: the same with f = 1
pub committed_2 : (r : Replica) (log : List ℕ) → r.f ≡ 1 → r.round.0 ≡ 4 → chain_rounds log 3 ≡ 1 ∷ 2 ∷ 3 ∷ []
    → committed_round r log ≡ 2
unfolding commit commit_limit highest
committed_2 r log f t e = simp (t, f, (slots_filled log e).1)

pub mask_3 : (s : Setup) (masks : List ℕ) (r : ℕ) → s.f ≡ 1 → mask masks r ≡ 3 → certified s masks r ≡ true
unfolding certified count bit
mask_3 s masks r e m = simp (e, m)

pub mask_1 : (s : Setup) (masks : List ℕ) (r : ℕ) → s.f ≡ 1 → mask masks r ≡ 1 → certified s masks r ≡ false
unfolding certified count bit
mask_1 s masks r e m = simp (e, m)

pub mask_21 : (s : Setup) (masks : List ℕ) (r : ℕ) → s.f ≡ 2 → mask masks r ≡ 21 → certified s masks r ≡ true
unfolding certified count bit
mask_21 s masks r e m = simp (e, m)
