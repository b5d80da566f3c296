-- The numbers by the code's tests. Assumes nothing.
use mathlib.Core.Path.{◌≡◌}
use mathlib.Core.Bool.{Bool, true, false, ◌&&◌}
use mathlib.Core.List.{List}
use Prim.Native.Nat.{ℕ, ◌+◌, ◌≤◌, ◌<◌}
use borrow.Author.Tests.{eq-eqb, ne_eqb, lt-ltb, le-ltb}
use Rattle.apollo.specs.declared.Replica.{Replica}
use Rattle.apollo.specs.declared.Setup.{Setup}
use Rattle.apollo.specs.Judging.{Verdict, verdict}
use Rattle.apollo.specs.Setup.{setup_of}
use Rattle.apollo.specs.Replica.{valid_record, valid_own, valid_log, valid_masks}
use Rattle.setup_ranges.specs.Number.{lent_number}
use Rattle.branch.specs.Judge.{Judged, refusal, judged_branch}
use Rattle.blame_set.specs.Set.{judged_set}
use Rattle.refusals.specs.Number.{room_number, open_number, guard_number, guard_of}
use Rattle.refusals.specs.Blames.{guarded_set}
use Rattle.refusals.specs.Branch.{guarded_branch}

-- 4 and 5
module _ (entry out : ℕ) where
  pub room_out : out < 1024 → 4 ≡ room_number entry out
  unfolding room_number
  room_out h = rw (lt-ltb out 1024 h)

  pub room_entry : 1024 ≤ out → 400 < entry → 5 ≡ room_number entry out
  unfolding room_number
  room_entry h g = rw (le-ltb out 1024 h, lt-ltb 400 entry g)

  pub room_none : 1024 ≤ out → entry ≤ 400 → 0 ≡ room_number entry out
  unfolding room_number
  room_none h g = rw (le-ltb out 1024 h, le-ltb 400 entry g)

module _ (r : Replica) (log masks : List ℕ) (entry out : ℕ) where
  -- 1 and 17, by the set-up's own number and the other tests of 1
  module _ (size : ℕ) (o l m : Bool) (eo : o ≡ valid_own r) (el : l ≡ valid_log r log) (em : m ≡ valid_masks r masks) where
    pub open_lent : (o && l && m) ≡ false → 1 ≡ open_number r size log masks entry out
    unfolding open_number
    open_lent t = rw (← eo, ← el, ← em, t)

    module _ (t : (o && l && m) ≡ true) (n : ℕ) (s : Setup) (es : s ≡ setup_of r) (en : n ≡ lent_number s size) where
      number_is : n ≡ lent_number (setup_of r) size
      number_is = rw es at en

      pub open_setup : (n ≡ 0 → ⊥) → n ≡ open_number r size log masks entry out
      unfolding open_number
      open_setup h = rw (← eo, ← el, ← em, ← number_is, t, ne_eqb n 0 h)

      pub open_room : (k : ℕ) → n ≡ 0 → k ≡ room_number entry out → k ≡ open_number r size log masks entry out
      unfolding open_number
      open_room k z e = rw (← eo, ← el, ← em, ← number_is, t, eq-eqb n 0 z) e

  -- 2 and 3
  module _ (a l b : Bool) (el : l ≡ valid_log r log) (eb : b ≡ valid_masks r masks) where
    pub guard_record : (a && l && b) ≡ false → 2 ≡ guard_number a r log masks entry out
    unfolding guard_number
    guard_record t = rw (← el, ← eb, t)

    pub guard_over : (a && l && b) ≡ true → r.round.0 ≡ r.last_round.0 + 1 → 3 ≡ guard_number a r log masks entry out
    unfolding guard_number
    guard_over t e = rw (← el, ← eb, t, eq-eqb r.round.0 (r.last_round.0 + 1) e)

    pub guard_room : (n : ℕ) → (a && l && b) ≡ true → (r.round.0 ≡ r.last_round.0 + 1 → ⊥) → n ≡ room_number entry out
        → n ≡ guard_number a r log masks entry out
    unfolding guard_number
    guard_room n t h e = rw (← el, ← eb, t, ne_eqb r.round.0 (r.last_round.0 + 1) h) e

  -- by the record's own test
  pub guard_of_lem : {n : ℕ} {a : Bool} → a ≡ valid_record r → n ≡ guard_number a r log masks entry out → n ≡ guard_of r log masks entry out
  guard_of_lem d e = rw d at e

  -- blames and a branch behind 2 to 5
  module _ (n : ℕ) (e : n ≡ guard_of r log masks entry out) where
    pub set_guarded : (most : ℕ) (x : List ℕ) → (n ≡ 0 → ⊥) → verdict n 0 ≡ guarded_set most r log masks x entry out
    unfolding guarded_set
    set_guarded most x h = rw (← e, ne_eqb n 0 h)

    pub set_judged : (most : ℕ) (x : List ℕ) (v : Verdict) → n ≡ 0 → v ≡ judged_set most r masks x → v ≡ guarded_set most r log masks x entry out
    unfolding guarded_set
    set_judged most x v z k = rw (← e, eq-eqb n 0 z) k

    pub branch_guarded : (x : List ℕ) → (n ≡ 0 → ⊥) → refusal n 0 ≡ guarded_branch r log masks x entry out
    unfolding guarded_branch
    branch_guarded x h = rw (← e, ne_eqb n 0 h)

    pub branch_judged : (x : List ℕ) (j : Judged) → n ≡ 0 → j ≡ judged_branch r log masks x → j ≡ guarded_branch r log masks x entry out
    unfolding guarded_branch
    branch_judged x j z k = rw (← e, eq-eqb n 0 z) k
