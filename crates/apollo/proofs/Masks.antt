-- The masks as code computes them: the ones of a mask reduced to n bits, the or with a power of two, a bit shifted down; and
-- the bits after one is set. Assumes nothing.
use Prim.Native.Nat.{ℕ, zero, suc, ◌+◌, ◌*◌, ◌/◌, ◌%◌, ◌^◌, ◌<◌, max}
use mathlib.Core.Logic.{◌≢◌}
use mathlib.Core.Path.{◌≡◌, refl, sym, ap, ◌∙◌}
use mathlib.Core.Bool.{Bool, true, false, cond}
use native.Mathlib.Nat.{pow-suc, pow-succ', div-div-eq-div-mul}
use native.Mathlib.Omega.{arith}
use lib.Arith.{mod-mul}
use lib.Pow.{pow_pos}
use lib.Bits.{bit_or, or_step, or_zero_r}
use lib.Count.{ones, ones_in, ones_step}
use lib.Dec.{eqb}
use borrow.Author.Tests.{eqb-true, eqb-false, eq-eqb}
use Rattle.apollo.specs.Masks.{bit, set_bit, count}

-- a count taken from the other end
count_shift : (n : ℕ) (p : ℕ → Bool) → count (suc n) p ≡ cond (p 0) 1 0 + count n (λ i. p (suc i))
unfolding count
count_shift zero p = refl
count_shift (suc n) p =
    let ih : cond (p n) 1 0 + count n p ≡ cond (p 0) 1 0 + count n (λ i. p (suc i)) = count_shift n p in
    omega arith

low_bit : (r : ℕ) → r < 2 → cond (eqb r 1) 1 0 ≡ r
low_bit zero l = refl
low_bit (suc zero) l = refl
low_bit (suc (suc r)) l = absurd (omega arith)

-- the ones of the mask reduced to n bits are its set bits below n
pub ones_count : (n m : ℕ) → ones (m % 2 ^ n) ≡ count n (λ i. bit i m)
unfolding count bit ones ones_in
ones_count zero m = let e : m % 1 ≡ 0 = omega arith in ap ones e
ones_count (suc n) m =
    let e : m % 2 ^ suc n ≡ (m / 2 % 2 ^ n) * 2 + m % 2 =
    ap (λ k. m % k) (pow-suc 2 n) ∙ mod-mul m {m = 2 ^ n} {c = 2} (pow_pos n) (omega arith) in
    let s : ones (m % 2 ^ suc n) ≡ m % 2 ^ suc n % 2 + ones (m % 2 ^ suc n / 2) = ones_step (m % 2 ^ suc n) in
    let h : m % 2 ^ suc n / 2 ≡ m / 2 % 2 ^ n = omega arith in
    let ih : ones (m / 2 % 2 ^ n) ≡ count n (λ i. bit i (m / 2)) = ones_count n (m / 2) in
    let c : count (suc n) (λ i. bit i m) ≡ cond (eqb (m % 2) 1) 1 0 + count n (λ i. bit i (m / 2)) = count_shift n (λ i. bit i m) in
    let b : cond (eqb (m % 2) 1) 1 0 ≡ m % 2 = low_bit (m % 2) (omega arith) in
    let o : ones (m % 2 ^ suc n / 2) ≡ ones (m / 2 % 2 ^ n) = ap ones h in
    omega arith

-- setting bit i is the or with 2 ^ i
pub or_set : (i m : ℕ) → bit_or m (2 ^ i) ≡ set_bit i m
unfolding set_bit
or_set zero m =
    let s : bit_or m 1 ≡ bit_or (m / 2) 0 * 2 + max (m % 2) 1 = or_step m 1 in
    let z : bit_or (m / 2) 0 ≡ m / 2 = or_zero_r (m / 2) in
    omega arith
or_set (suc i) m =
    let s : bit_or m (2 ^ suc i) ≡ bit_or (m / 2) (2 ^ suc i / 2) * 2 + max (m % 2) (2 ^ suc i % 2) = or_step m (2 ^ suc i) in
    let p : 2 ^ suc i ≡ 2 ^ i * 2 = pow-suc 2 i in
    let h : 2 ^ suc i / 2 ≡ 2 ^ i = omega arith in
    let a : bit_or (m / 2) (2 ^ suc i / 2) ≡ bit_or (m / 2) (2 ^ i) = ap (bit_or (m / 2)) h in
    let ih : bit_or (m / 2) (2 ^ i) ≡ set_bit i (m / 2) = or_set i (m / 2) in
    omega arith

-- bit i is the lowest bit of the mask shifted down by i
pub bit_shift : (i m : ℕ) → bit i m ≡ eqb (m / 2 ^ i % 2) 1
unfolding bit
bit_shift zero m = let e : m % 2 ≡ m / 1 % 2 = omega arith in ap (λ k. eqb k 1) e
bit_shift (suc i) m =
    let e : m / 2 / 2 ^ i ≡ m / 2 ^ suc i = div-div-eq-div-mul m 2 (2 ^ i) ∙ ap (λ k. m / k) (sym (pow-succ' 2 i)) in
    bit_shift i (m / 2) ∙ ap (λ k. eqb (k % 2) 1) e

-- no bit of 0 is set
pub bit_zero : (i : ℕ) → bit i 0 ≡ false
unfolding bit
bit_zero zero = refl
bit_zero (suc i) = bit_zero i

-- after a bit is set: that bit, and the others
pub bit_set_same : (i m : ℕ) → bit i (set_bit i m) ≡ true
unfolding bit set_bit
bit_set_same zero m = let e : (m / 2 * 2 + 1) % 2 ≡ 1 = omega arith in eq-eqb _ _ e
bit_set_same (suc i) m =
    let e : (set_bit i (m / 2) * 2 + m % 2) / 2 ≡ set_bit i (m / 2) = omega arith in
    ap (bit i) e ∙ bit_set_same i (m / 2)

pub bit_set_other : (j i m : ℕ) → j ≢ i → bit j (set_bit i m) ≡ bit j m
unfolding bit set_bit
bit_set_other zero zero m ne = absurd (ne refl)
bit_set_other (suc j) zero m ne = let e : (m / 2 * 2 + 1) / 2 ≡ m / 2 = omega arith in ap (bit j) e
bit_set_other zero (suc i) m ne = let e : (set_bit i (m / 2) * 2 + m % 2) % 2 ≡ m % 2 = omega arith in ap (λ k. eqb k 1) e
bit_set_other (suc j) (suc i) m ne =
    let e : (set_bit i (m / 2) * 2 + m % 2) / 2 ≡ set_bit i (m / 2) = omega arith in
    ap (bit j) e ∙ bit_set_other j i (m / 2) (λ e. ne (ap suc e))

-- a mask below 2 ^ n stays so
pub set_below : (n i m : ℕ) → i < n → m < 2 ^ n → set_bit i m < 2 ^ n
unfolding set_bit
set_below zero i m l h = absurd (omega arith)
set_below (suc n) zero m l h =
    let p : 2 ^ suc n ≡ 2 ^ n * 2 = pow-suc 2 n in
    omega arith
set_below (suc n) (suc i) m l h =
    let p : 2 ^ suc n ≡ 2 ^ n * 2 = pow-suc 2 n in
    let b : set_bit i (m / 2) < 2 ^ n = set_below n i (m / 2) (omega arith) (omega arith) in
    omega arith

pub bit_kept : (i k m : ℕ) → bit k m ≡ true → bit k (set_bit i m) ≡ true
bit_kept i k m e = go (eqb k i) refl
  where
    go : (z : Bool) → eqb k i ≡ z → bit k (set_bit i m) ≡ true
    go true z = ap (λ j. bit j (set_bit i m)) (eqb-true _ _ z) ∙ bit_set_same i m
    go false z = bit_set_other k i m (eqb-false _ _ z) ∙ e
