-- Masks of 16 bits: a power of two in a word, a mask reduced to n bits, its ones, and its bits. Assumes nothing.
use mathlib.Core.Path.{◌≡◌, refl, sym, ap, ◌∙◌}
use mathlib.Core.Bool.{Bool, true, false}
use mathlib.Core.List.{List}
use Prim.Native.Nat.{ℕ, ◌+◌, ◌*◌, ◌/◌, ◌%◌, ◌^◌, ◌≤◌, ◌<◌}
use native.Mathlib.Nat.{mod-eq_of_lt, div-eq_of_lt, lt_of_lt_of_le, lt-mul-div-succ}
use lib.Pow.{pow_mono, pow_pos}
use lib.Bits.{bit_or}
use lib.Count.{ones}
use native.Mathlib.Omega.{arith}
use Rattle.std.proofs.lemmas.Nat.{one_shl}
use lib.Dec.{eqb, leb, ltb}
use borrow.Author.Tests.{lt-ltb, ltb-true, ltb-false, eq-eqb, ne_eqb}
use Rattle.apollo.specs.Masks.{bit, set_bit, mask, certified}
use Rattle.apollo.proofs.Masks.{ones_count, or_set, bit_shift}
use Rattle.apollo.specs.declared.Setup.{Setup}

below_pow : (m n : ℕ) → m < 2 ^ 16 → 16 ≤ n → m < 2 ^ n
below_pow m n h g = lt_of_lt_of_le h (pow_mono g)

-- nothing is dropped from a mask reduced to 16 bits or more
pub reduced_whole : (m n : ℕ) → m < 2 ^ 16 → 16 ≤ n → m ≡ m % 2 ^ n
reduced_whole m n h g = sym (mod-eq_of_lt (below_pow m n h g))

-- a mask reduced to n bits, by the end of their range in a word of 32 bits; nothing is dropped where it is past the word
pub reduced_low : (m n : ℕ) → n < 32 → m % (1 * 2 ^ n % 2 ^ 32) ≡ m % 2 ^ n
reduced_low m n h = ap (λ k. m % k) (one_shl n 32 h)

pub reduced_past : (m n : ℕ) → m < 2 ^ 16 → 32 ≤ n → m ≡ m % 2 ^ n
reduced_past m n h g = reduced_whole m n h (omega arith)

-- a mask is below 2 ^ n where none is left of it above n bits; a mask of 16 bits is where n is 16 or more
pub fits_low : (m n : ℕ) → eqb (m / 2 ^ n) 0 ≡ ltb m (2 ^ n)
fits_low m n = by (ltb m (2 ^ n)) refl
  where
    by : (b : Bool) → ltb m (2 ^ n) ≡ b → eqb (m / 2 ^ n) 0 ≡ ltb m (2 ^ n)
    by true e = eq-eqb (m / 2 ^ n) 0 (div-eq_of_lt (ltb-true m (2 ^ n) e)) ∙ sym e
    by false e =
        let high : 2 ^ n ≤ m = ltb-false m (2 ^ n) e in
        let some : m / 2 ^ n ≡ 0 → ⊥ = λ z. let low : m < 2 ^ n * (0 + 1) = rw z at (lt-mul-div-succ m (pow_pos n)) in omega arith in
        ne_eqb (m / 2 ^ n) 0 some ∙ sym e

pub fits_whole : (m n : ℕ) → m < 2 ^ 16 → 16 ≤ n → true ≡ ltb m (2 ^ n)
fits_whole m n h g = sym (lt-ltb m (2 ^ n) (below_pow m n h g))

-- the ones of the reduced mask, compared with f + 1
pub enough : (s : Setup) (masks : List ℕ) (r f m x : ℕ) → f ≡ s.f → m ≡ mask masks r → x ≡ m % 2 ^ (2 * f + 1)
    → leb (f + 1) (ones x) ≡ certified s masks r
unfolding certified
enough s masks r f m x g e d = rw (d, e, g) (ap (leb (s.f + 1)) (ones_count (2 * s.f + 1) (mask masks r)))

-- a bit of a mask, read by a shift
pub bit_read : (i m : ℕ) → eqb (m / 2 ^ i % 2) 1 ≡ bit i m
bit_read i m = sym (bit_shift i m)

-- there is no bit from 16 on
pub bit_high : (i m : ℕ) → m < 2 ^ 16 → 16 ≤ i → false ≡ bit i m
bit_high i m h g =
    let z : m / 2 ^ i ≡ 0 = div-eq_of_lt (below_pow m i h g) in
    rw (bit_shift i m, z)

-- the or with 2 ^ i
pub bit_set : (i m : ℕ) → i < 16 → bit_or m (1 * 2 ^ i % 2 ^ 16) ≡ set_bit i m
bit_set i m h = rw (one_shl i 16 h, or_set i m)
