-- Laws of `same`, by the or of the bits in which two lists differ, and of a list's elements. Assumes nothing.
use mathlib.Core.Path.{◌≡◌, refl, sym, ap, ◌∙◌}
use mathlib.Core.Bool.{Bool, true, false, ◌&&◌}
use mathlib.Core.List.{List, [], ◌∷◌}
use Prim.Native.Nat.{ℕ, suc}
use native.Mathlib.Omega.{arith}
use lib.Bits.{bit_or, bit_xor, and_le_l, and_le_r, or_add_and, xor_add_and, xor_self, xor_zero_r}
use lib.Dec.{eqb}
use lib.ListN.{length}
use borrow.Author.Tests.{eq-eqb, ne_eqb, eqb-true, eqb-false}
use Rattle.std.specs.List.{fold, zip}
use Rattle.apollo.specs.Bytes.{same, zeros}
use Rattle.apollo.proofs.Tests.{and_end, and_assoc}

-- no bit of d is set, and x and y differ in none
join_differ : (d x y : ℕ) → eqb (bit_or d (bit_xor x y)) 0 ≡ eqb d 0 && eqb x y
join_differ d x y = by (eqb d 0) refl (eqb x y) refl
  where
    by : (s : Bool) → eqb d 0 ≡ s → (t : Bool) → eqb x y ≡ t → eqb (bit_or d (bit_xor x y)) 0 ≡ s && t
    by true e true g =
        let q : bit_xor x y ≡ 0 = rw (eqb-true x y g) (xor_self y) in
        eq-eqb (bit_or d (bit_xor x y)) 0 (omega (arith, or_add_and d (bit_xor x y), eqb-true d 0 e))
    by true e false g =
        let n : x ≡ y → ⊥ = eqb-false x y g in
        ne_eqb (bit_or d (bit_xor x y)) 0
        (omega (arith, or_add_and d (bit_xor x y), and_le_l d (bit_xor x y), eqb-true d 0 e, xor_add_and x y, and_le_l x y, and_le_r x y))
    by false e t g =
        let n : d ≡ 0 → ⊥ = eqb-false d 0 e in
        ne_eqb (bit_or d (bit_xor x y)) 0 (omega (arith, or_add_and d (bit_xor x y), and_le_r d (bit_xor x y)))

-- the bits in which two lists of one length differ
differ_all : (d : ℕ) (a b : List ℕ) → length a ≡ length b
    → eqb (fold (λ d (p : ℕ × ℕ). bit_or d (bit_xor p.0 p.1)) d (zip a b)) 0 ≡ eqb d 0 && same a b
unfolding same
differ_all d [] [] l = sym (and_end (eqb d 0))
differ_all d [] (y ∷ b) l = absurd (omega arith)
differ_all d (x ∷ a) [] l = absurd (omega arith)
differ_all d (x ∷ a) (y ∷ b) l =
    differ_all (bit_or d (bit_xor x y)) a b (omega arith) ∙ ap (λ t. t && same a b) (join_differ d x y)
    ∙ sym (and_assoc (eqb d 0) (eqb x y) (same a b))

pub same_told : (a b : List ℕ) (r : ℕ) → length a ≡ length b → r ≡ fold (λ d (p : ℕ × ℕ). bit_or d (bit_xor p.0 p.1)) 0 (zip a b)
    → eqb r 0 ≡ same a b
same_told a b r l e = ap (λ k. eqb k 0) e ∙ differ_all 0 a b l

-- the or of all elements
or_all : (d : ℕ) (xs : List ℕ) → eqb (fold bit_or d xs) 0 ≡ eqb d 0 && same xs (zeros (length xs))
unfolding same zeros
or_all d [] = sym (and_end (eqb d 0))
or_all d (x ∷ xs) =
    or_all (bit_or d x) xs ∙ ap (λ t. t && same xs (zeros (length xs))) (ap (λ k. eqb (bit_or d k) 0) (sym (xor_zero_r x)) ∙ join_differ d x 0)
    ∙ sym (and_assoc (eqb d 0) (eqb x 0) (same xs (zeros (length xs))))

pub zero_told : (xs : List ℕ) (r : ℕ) → r ≡ fold bit_or 0 xs → eqb r 0 ≡ same xs (zeros (length xs))
zero_told xs r e = ap (λ k. eqb k 0) e ∙ or_all 0 xs

-- lists of different lengths
pub same_length : (a b : List ℕ) → (length a ≡ length b → ⊥) → same a b ≡ false
unfolding same
same_length [] [] n = absurd (n refl)
same_length [] (y ∷ b) n = refl
same_length (x ∷ a) [] n = refl
same_length (x ∷ a) (y ∷ b) n = and_false (eqb x y) (same a b) (same_length a b (λ e. n (ap suc e)))
  where
    and_false : (t s : Bool) → s ≡ false → t && s ≡ false
    and_false true s e = e
    and_false false s e = refl

pub other_length : (a b : List ℕ) → (length a ≡ length b → ⊥) → eqb (length a) (length b) ≡ same a b
other_length a b n = ne_eqb (length a) (length b) n ∙ sym (same_length a b n)
