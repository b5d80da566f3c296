-- The signers of a set that passed 7 and 8 have bits in a mask of 16. Assumes nothing.
use mathlib.Core.Path.{◌≡◌, refl}
use mathlib.Core.Bool.{Bool, true, false, cond}
use mathlib.Core.List.{List, [], ◌∷◌}
use Prim.Native.Nat.{ℕ, ◌+◌, ◌≤◌}
use native.Mathlib.Omega.{arith}
use lib.Dec.{eqb}
use borrow.Author.Tests.{eqb-true, eqb-false}
use Rattle.sha256.specs.Fips.{sha256}
use Rattle.apollo.specs.declared.Setup.{Setup}
use Rattle.apollo.specs.Frame.{blame_form}
use Rattle.apollo.specs.Judging.{Verdict, verdict, fault, judged_each}
use Rattle.frame_forms.proofs.Facts.{BlameFields, blame_fields}
use Rattle.apollo.proofs.Fault.{fault_none}
use Rattle.blame_set.specs.Set.{HaveBits}

none_first : (z : Bool) (k i : ℕ) (v : Verdict) → eqb k 0 ≡ z → (cond z v (verdict k i)).number ≡ 0 → (k ≡ 0) × (v.number ≡ 0)
none_first true k i v e h = (eqb-true k 0 e, h)
none_first false k i v e h = absurd (eqb-false k 0 e h)

-- the frames of a set that nothing refuses passed 7 and 8
pub none_second : (w z : Bool) (u v : Verdict) → eqb v.number 0 ≡ z → (cond w (cond z u v) (verdict 6 0)).number ≡ 0 → v.number ≡ 0
none_second true true u v e h = eqb-true v.number 0 e
none_second true false u v e h = h
none_second false z u v e h = absurd (omega arith)

pub each_has_bit : (s : Setup) → s.f ≤ 7 → (i : ℕ) (xs : List (List ℕ)) → (judged_each sha256 (blame_form s) i xs).number ≡ 0 → HaveBits xs
unfolding judged_each
each_has_bit s l i [] e = tt
each_has_bit s l i (x ∷ xs) e =
    let k : ℕ = fault sha256 (blame_form s) x in
    let p = none_first (eqb k 0) k i (judged_each sha256 (blame_form s) (i + 1) xs) refl e in
    let f : BlameFields s x = blame_fields s x (fault_none sha256 (blame_form s) x p.0).1 in
    (omega (arith, f.by_replica), each_has_bit s l (i + 1) xs p.1)
