-- A number below 2 ^ n has no bit at n or above, and back. Assumes nothing.
use Prim.Native.Nat.{ℕ, zero, suc, ◌*◌, ◌/◌, ◌%◌, ◌^◌, ◌≤◌, ◌<◌}
use mathlib.Core.Path.{◌≡◌, ap, ◌∙◌}
use mathlib.Core.Bool.{false}
use native.Mathlib.Nat.{pow-suc, div-eq_of_lt, lt_of_lt_of_le}
use native.Mathlib.Omega.{arith}
use lib.Pow.{pow_mono}
use lib.Dec.{eqb}
use borrow.Author.Tests.{eqb-false, ltb-true, lt-ltb}
use Rattle.apollo.specs.Masks.{bit}
use Rattle.apollo.proofs.Masks.{bit_shift}
use Rattle.theorem_equivocators.specs.Marks.{HighBits}

-- no bit from n on
abbrev None : (n m : ℕ) → Type 0
None n m = (k : ℕ) → n ≤ k → bit k m ≡ false

below_none : (n m : ℕ) → m < 2 ^ n → None n m
below_none n m l k h =
    let z : m / 2 ^ k ≡ 0 = div-eq_of_lt (lt_of_lt_of_le l (pow_mono h)) in
    bit_shift k m ∙ ap (λ q. eqb (q % 2) 1) z

-- a number of w bits with no bit at all
none_zero : (w m : ℕ) → m < 2 ^ w → None 0 m → m ≡ 0
unfolding bit
none_zero zero m l h = omega arith
none_zero (suc w) m l h =
    let p : 2 ^ suc w ≡ 2 ^ w * 2 = pow-suc 2 w in
    let z : m / 2 ≡ 0 = none_zero w (m / 2) (omega arith) (λ k o. h (suc k) (omega arith)) in
    let ne : m % 2 ≡ 1 → ⊥ = eqb-false (m % 2) 1 (h 0 (omega arith)) in
    omega arith

none_below : (w n m : ℕ) → m < 2 ^ w → None n m → m < 2 ^ n
unfolding bit
none_below w zero m l h = let z : m ≡ 0 = none_zero w m l h in omega arith
none_below w (suc n) m l h =
    let p : 2 ^ suc n ≡ 2 ^ n * 2 = pow-suc 2 n in
    let b : m / 2 < 2 ^ n = none_below w n (m / 2) (omega arith) (λ k o. h (suc k) (omega arith)) in
    omega arith

-- m bits are enough for m
wide : (m : ℕ) → m < 2 ^ m
wide zero = omega arith
wide (suc m) =
    let p : 2 ^ suc m ≡ 2 ^ m * 2 = pow-suc 2 m in
    let h : m < 2 ^ m = wide m in
    omega arith

pub high_bits : HighBits
high_bits r = (λ v. below_none _ _ (ltb-true _ _ v), λ h. lt-ltb _ _ (none_below _ _ _ (wide r.equivocators) h))
