-- The walk over skipped rounds: those before a frame, and the frames one by one. Assumes nothing.
use mathlib.Core.Path.{◌≡◌, refl, sym}
use mathlib.Core.Bool.{Bool, true, false, cond}
use mathlib.Core.List.{List, ◌++◌}
use Prim.Native.Nat.{ℕ, suc, ◌+◌, ◌-◌, ◌≤◌, ◌<◌, min}
use native.Mathlib.Omega.{arith}
use lib.Dec.{leb}
use lib.ListN.{length}
use borrow.Author.Tests.{eq-eqb, ne_eqb, leb-true, leb-false}
use Rattle.std.specs.Prelude.{Some, None}
use Rattle.apollo.specs.Size.{frame_size}
use Rattle.apollo.specs.declared.Setup.{Setup}
use Rattle.apollo.specs.Frame.{round, frames_of}
use Rattle.apollo.specs.Masks.{certified, gap}
use Rattle.apollo.specs.Branch.{first_uncertified}
use Rattle.apollo.specs.Found.{found}
use Rattle.apollo.proofs.Found.{found_none, found_some, none_found, some_found}
use Rattle.frame.proofs.Walk.{frames_more, frames_done}

module _ (s : Setup) (masks : List ℕ) where
  -- the rounds from p on to, not including, `to`, in place of those above lo: at the first of them, behind one that is certified, at one that
  -- is not, and behind the last
  pub gap_start : (lo to p : ℕ) → p ≡ min (lo + 1) 4294967295 → to < 4294967296 → gap s masks (p - 1) (to - p) ≡ gap s masks lo (to - lo - 1)
  unfolding gap
  gap_start lo to p e f = by (leb (lo + 1) 4294967295) refl
    where
      by : (b : Bool) → leb (lo + 1) 4294967295 ≡ b → gap s masks (p - 1) (to - p) ≡ gap s masks lo (to - lo - 1)
      by true t =
          let h : lo + 1 ≤ 4294967295 = leb-true (lo + 1) 4294967295 t in
          let q : p - 1 ≡ lo = omega arith in
          let k : to - p ≡ to - lo - 1 = omega arith in
          rw (q, k)
      by false t =
          let h : 4294967295 < lo + 1 = leb-false (lo + 1) 4294967295 t in
          let k : to - p ≡ 0 = omega arith in
          let j : to - lo - 1 ≡ 0 = omega arith in
          rw (k, j)

  module _ (p to : ℕ) (l : 1 ≤ p) where
    gap_here : p < to → gap s masks (p - 1) (to - p) ≡ cond (certified s masks p) (gap s masks (p + 1 - 1) (to - (p + 1))) p
    unfolding gap
    gap_here h =
        let k : to - p ≡ suc (to - (p + 1)) = omega arith in
        let q : p - 1 + 1 ≡ p = omega arith in
        let r : p + 1 - 1 ≡ p = omega arith in
        rw (k, q, r)

    pub gap_passed : p < to → certified s masks p ≡ true → (g : ℕ) → gap s masks (p - 1) (to - p) ≡ g
        → gap s masks (p + 1 - 1) (to - (p + 1)) ≡ g
    gap_passed h c g e = rw (gap_here h, c) at e

    pub gap_met : p < to → certified s masks p ≡ false → (g : ℕ) → gap s masks (p - 1) (to - p) ≡ g → Some p ≡ found g
    gap_met h c g e =
        let q : p ≡ g = rw (gap_here h, c) at e in
        rw (← q) (found_some p (λ z. omega arith))

    pub gap_over : to ≤ p → (g : ℕ) → gap s masks (p - 1) (to - p) ≡ g → None ≡ found g
    unfolding gap
    gap_over h g e =
        let k : to - p ≡ 0 = omega arith in
        found_none g (sym (rw k at e))

  -- the frames from s on, behind round lo: the frame x, and then t
  module _ (lo : ℕ) (b : List ℕ) (goal : ℕ) (e : first_uncertified s masks lo (frames_of b) ≡ goal) where
    module _ (x t : List ℕ) (p : b ≡ x ++ t) (h : length x ≡ frame_size) (to : ℕ) (is : to ≡ round x) where
      pub stop : (r : ℕ) → Some r ≡ found (gap s masks lo (to - lo - 1)) → Some r ≡ found goal
      unfolding first_uncertified
      stop r d =
          let q = some_found (gap s masks lo (to - lo - 1)) r d in
          let z : gap s masks lo (to - lo - 1) ≡ 0 → ⊥ = rw (q.0) (q.1) in
          let g : gap s masks lo (to - lo - 1) ≡ goal = rw (frames_more b x t p h, ← is, ne_eqb (gap s masks lo (to - lo - 1)) 0 z) at e in
          rw g at d

      pub next : None ≡ found (gap s masks lo (to - lo - 1)) → first_uncertified s masks to (frames_of t) ≡ goal
      unfolding first_uncertified
      next d = rw (frames_more b x t p h, ← is, eq-eqb (gap s masks lo (to - lo - 1)) 0 (none_found _ d)) at e

    pub end : length b < frame_size → None ≡ found goal
    unfolding first_uncertified
    end h = found_none goal (sym (rw (frames_done b h) at e))
