-- The 15 seats of a rotation, one by one. Assumes nothing.
use Prim.Native.Nat.{ℕ, ◌+◌, ◌-◌, ◌≤◌, ◌<◌}
use mathlib.Core.Path.{◌≡◌, refl, sym, ap, ◌∙◌}
use mathlib.Core.List.{List, ◌++◌}
use mathlib.Core.Bool.{Bool, true, false}
use native.Mathlib.Omega.{arith}
use lib.Dec.{ltb}
use lib.ListN.{length, get_or, length-append, get_or-replicate, get_or-append, get_or-eq_default}
use lib.Seq.{length-take-le, get_or-append-add}
use borrow.Author.Tests.{ltb-true, ltb-false}
use Rattle.std.proofs.lemmas.List.{get_or-take}
use Rattle.std.proofs.lemmas.Grind.{get_or_default_zero}
use Rattle.apollo.specs.Bytes.{zeros}
use Rattle.apollo.specs.Rotation.{padded}
use Rattle.apollo.proofs.Slots.{length_zeros}

module _ (xs : List ℕ) where
  abbrev long : List ℕ
  long = xs ++ zeros 15

  long_length : 15 ≤ length long
  long_length = omega (arith, length-append xs (zeros 15), length_zeros 15)

  long_at : (i : ℕ) → i < 15 → get_or long i 0 ≡ get_or xs i 0
  unfolding zeros
  long_at i l = go (ltb i (length xs)) refl
    where
      go : (b : Bool) → ltb i (length xs) ≡ b → get_or long i 0 ≡ get_or xs i 0
      go true e = get_or-append xs (zeros 15) 0 i (ltb-true i (length xs) e)
      go false e =
          let h : length xs ≤ i = ltb-false i (length xs) e in
          let q : i ≡ length xs + (i - length xs) = omega arith in
          ap (λ k. get_or long k 0) q ∙ get_or-append-add xs (zeros 15) (i - length xs) 0
          ∙ get_or-replicate 15 (i - length xs) 0 0 (omega arith) ∙ sym (get_or-eq_default xs 0 h)

  pub seat : (i d : ℕ) → i < 15 → get_or (padded xs) i d ≡ get_or xs i 0
  unfolding padded
  seat i d h = get_or-take 15 long i d h ∙ get_or_default_zero long i d (omega (arith, long_length)) ∙ long_at i h

  pub seats : length (padded xs) ≡ 15
  unfolding padded
  seats = length-take-le 15 long long_length
