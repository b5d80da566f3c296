-- What holds where nothing refuses a call. Assumes nothing.
use mathlib.Core.Path.{◌≡◌, refl}
use mathlib.Core.Bool.{Bool, true, false, ◌&&◌, not, cond}
use mathlib.Core.List.{List}
use Prim.Native.Nat.{ℕ, suc, ◌+◌, ◌≤◌}
use native.Mathlib.Omega.{arith}
use lib.Dec.{eqb, ltb}
use lib.ListN.{length}
use borrow.Author.Tests.{ltb-false, eqb-true, eqb-false, not-false}
use Rattle.apollo.specs.declared.Replica.{Replica}
use Rattle.apollo.specs.Frame.{frames_of}
use Rattle.apollo.specs.Judging.{Verdict, verdict}
use Rattle.apollo.specs.Setup.{setup_of}
use Rattle.apollo.specs.Replica.{valid_own, valid_log, valid_replica, valid_masks}
use Rattle.apollo.proofs.Validity.{ValidOpening, Valid}
use Rattle.apollo.proofs.Tests.{and_first, and-true}
use Rattle.apollo.proofs.Validity.{valid_opening, valid}
use Rattle.setup_ranges.specs.Number.{lent_number}
use Rattle.setup_ranges.proofs.Number.{lent_limits}
use Rattle.branch.specs.Judge.{Judged, refusal, judged_branch}
use Rattle.blame_set.specs.Set.{HaveBits, judged_set}
use Rattle.blame_set.proofs.Answer.{set_bits}
use Rattle.refusals.specs.Number.{room_number, open_number, guard_number, guard_of}
use Rattle.refusals.specs.Blames.{guarded_set}
use Rattle.refusals.specs.Branch.{guarded_branch}

-- with the number 0 every test failed
nonzero : (n : ℕ) → suc n ≡ 0 → ⊥
nonzero n e = omega arith

setup_passed : (z : Bool) (n k : ℕ) → eqb n 0 ≡ z → cond (not z) n k ≡ 0 → (n ≡ 0) × (k ≡ 0)
setup_passed true n k e h = (eqb-true n 0 e, h)
setup_passed false n k e h = absurd (eqb-false n 0 e h)

first_failed : (a : Bool) (m n : ℕ) → cond a (suc m) n ≡ 0 → (a ≡ false) × (n ≡ 0)
first_failed true m n e = absurd (nonzero m e)
first_failed false m n e = (refl, e)

set_none : (z : Bool) (m : ℕ) (v : Verdict) → eqb m 0 ≡ z → (cond z v (verdict m 0)).number ≡ 0 → (m ≡ 0) × (v.number ≡ 0)
set_none true m v e h = (eqb-true m 0 e, h)
set_none false m v e h = absurd (eqb-false m 0 e h)

branch_none : (z : Bool) (m : ℕ) (j : Judged) → eqb m 0 ≡ z → (cond z j (refusal m 0)).number ≡ 0
    → (m ≡ 0) × (cond z j (refusal m 0) ≡ j)
branch_none true m j e h = (eqb-true m 0 e, refl)
branch_none false m j e h = absurd (eqb-false m 0 e h)

-- 4 and 5
room : (entry out : ℕ) → room_number entry out ≡ 0 → (1024 ≤ out) × (entry ≤ 400)
unfolding room_number
room entry out e =
    let p = first_failed (ltb out 1024) 3 (cond (ltb 400 entry) 5 0) e in
    let q = first_failed (ltb 400 entry) 4 0 p.1 in
    (ltb-false out 1024 p.0, ltb-false 400 entry q.0)

-- open that is not refused
pub record Opened (r : Replica) (log masks : List ℕ) (entry out : ℕ) : Type 0 where
  pub valid : ValidOpening r log
  pub masks_size : length masks ≡ r.last_round.0
  pub out_room : 1024 ≤ out
  pub entry_room : entry ≤ 400

-- another call
pub record Passed (r : Replica) (log : List ℕ) (entry out : ℕ) : Type 0 where
  pub valid : Valid r log
  pub round_last : r.round.0 ≤ r.last_round.0
  pub out_room : 1024 ≤ out
  pub entry_room : entry ≤ 400

module _ (r : Replica) (log masks : List ℕ) (entry out : ℕ) where
  pub opened : (size : ℕ) → open_number r size log masks entry out ≡ 0 → Opened r log masks entry out
  unfolding open_number
  opened size e =
      let lent = not (valid_own r && valid_log r log && valid_masks r masks) in
      let setup : ℕ = lent_number (setup_of r) size in
      let p = first_failed lent 0 (cond (not (eqb setup 0)) setup (room_number entry out)) e in
      let t = setup_passed (eqb setup 0) setup (room_number entry out) refl p.1 in
      let v = and-true (valid_own r && valid_log r log) (valid_masks r masks) (not-false (valid_own r && valid_log r log && valid_masks r masks) p.0) in
      let w = and-true (valid_own r) (valid_log r log) v.0 in
      let q = room entry out t.1 in
      record {
        valid = valid_opening r log (lent_limits (setup_of r) size t.0) w.0 w.1;
        masks_size = eqb-true (length masks) r.last_round.0 v.1;
        out_room = q.0;
        entry_room = q.1;
      }

  pub passed : guard_of r log masks entry out ≡ 0 → Passed r log entry out
  unfolding guard_number valid_replica
  passed e =
      let end = eqb r.round.0 (r.last_round.0 + 1) in
      let p = first_failed (not (valid_replica r log && valid_masks r masks)) 1 (cond end 3 (room_number entry out)) e in
      let k = first_failed end 2 (room_number entry out) p.1 in
      let v : Valid r log =
      valid r log (and_first (valid_replica r log) (valid_masks r masks) (not-false (valid_replica r log && valid_masks r masks) p.0))
      in
      let h : r.round.0 ≡ r.last_round.0 + 1 → ⊥ = eqb-false r.round.0 (r.last_round.0 + 1) k.0 in
      let q = room entry out k.1 in
      record { valid = v; round_last = omega arith; out_room = q.0; entry_room = q.1 }

  -- the signers of a set have bits in a mask of 16
  pub set_passed : (most : ℕ) (x : List ℕ) → (guarded_set most r log masks x entry out).number ≡ 0 → Passed r log entry out × HaveBits (frames_of x)
  unfolding guarded_set
  set_passed most x e =
      let g : ℕ = guard_of r log masks entry out in
      let q : (g ≡ 0) × ((judged_set most r masks x).number ≡ 0) = set_none (eqb g 0) g (judged_set most r masks x) refl e in
      let p : Passed r log entry out = passed q.0 in
      (p, set_bits most r masks x p.valid.setup.f_most q.1)

  pub branch_passed : (x : List ℕ) → (guarded_branch r log masks x entry out).number ≡ 0
      → Passed r log entry out × ((judged_branch r log masks x).number ≡ 0)
  unfolding guarded_branch
  branch_passed x e =
      let g : ℕ = guard_of r log masks entry out in
      let q : (g ≡ 0) × (guarded_branch r log masks x entry out ≡ judged_branch r log masks x) =
      branch_none (eqb g 0) g (judged_branch r log masks x) refl e in
      (passed q.0, rw q.1 at e)
