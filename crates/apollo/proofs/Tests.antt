-- Tests: what a choice is where its test is known, and equality of lists as a test. Assumes nothing.
use Prim.Native.Nat.{ℕ, ◌≤◌}
use mathlib.Core.Path.{◌≡◌, refl, sym, subst, subst⁻¹}
use mathlib.Core.Logic.{◌⊎◌, inl, inr}
use mathlib.Core.List.{List, [], ◌∷◌}
use mathlib.Core.Bool.{Bool, true, false, ◌&&◌, ◌||◌, cond, true≢false}
use lib.Dec.{eqb, leb}
use borrow.Author.Tests.{eq-eqb, eqb-true, leb-true, le-leb}
use Rattle.apollo.specs.Bytes.{same, within}

-- each part of a conjunction that holds
pub and_first : (a b : Bool) → (a && b) ≡ true → a ≡ true
and_first true b e = refl
and_first false b e = e

pub and_second : (a b : Bool) → (a && b) ≡ true → b ≡ true
and_second true b e = e
and_second false b e = absurd (true≢false (sym e))

pub and-true : (a b : Bool) → (a && b) ≡ true → (a ≡ true) × (b ≡ true)
and-true a b e = (and_first a b e, and_second a b e)

pub and_end : (a : Bool) → a && true ≡ a
and_end true = refl
and_end false = refl

pub and_assoc : (a b c : Bool) → a && (b && c) ≡ a && b && c
and_assoc true b c = refl
and_assoc false b c = refl

pub and_no : (b : Bool) → b && false ≡ false
and_no true = refl
and_no false = refl

pub both : (a b : Bool) → a ≡ true → b ≡ true → (a && b) ≡ true
both true b e d = d
both false b e d = e

-- one part of a disjunction that holds; both of one that does not
pub or_true : (a b : Bool) → (a || b) ≡ true → (a ≡ true) ⊎ (b ≡ true)
or_true true b e = inl refl
or_true false b e = inr e

pub or_false : (a b : Bool) → (a || b) ≡ false → (a ≡ false) × (b ≡ false)
or_false true b e = absurd (true≢false e)
or_false false b e = (refl, e)

-- lo ≤ n ≤ hi, of its test, and back
pub within_true : (lo n hi : ℕ) → within lo n hi ≡ true → (lo ≤ n) × (n ≤ hi)
within_true lo n hi e =
    (leb-true lo n (and_first (leb lo n) (leb n hi) e), leb-true n hi (and_second (leb lo n) (leb n hi) e))

pub within_of : (lo n hi : ℕ) → lo ≤ n → n ≤ hi → within lo n hi ≡ true
within_of lo n hi l h = both (leb lo n) (leb n hi) (le-leb lo n l) (le-leb n hi h)

-- what holds in both cases of a test holds of the choice
pub by_cond : {A : Type 0} (P : A → Type 0) (b : Bool) {x y : A} → (b ≡ true → P x) → (b ≡ false → P y) → P (cond b x y)
by_cond P true h k = h refl
by_cond P false h k = k refl

pub cond_true : {A : Type 0} {b : Bool} (x y : A) → b ≡ true → cond b x y ≡ x
cond_true {b} x y e = subst⁻¹ (λ (c : Bool). cond c x y ≡ x) e refl

pub cond_false : {A : Type 0} {b : Bool} (x y : A) → b ≡ false → cond b x y ≡ y
cond_false {b} x y e = subst⁻¹ (λ (c : Bool). cond c x y ≡ y) e refl

pub same_refl : (xs : List ℕ) → same xs xs ≡ true
unfolding same
same_refl [] = refl
same_refl (x ∷ xs) = both (eqb x x) (same xs xs) (eq-eqb x x refl) (same_refl xs)

pub same_of : {xs ys : List ℕ} → xs ≡ ys → same xs ys ≡ true
same_of {xs} {ys} e = subst (λ zs. same xs zs ≡ true) e (same_refl xs)

pub same_true : (xs ys : List ℕ) → same xs ys ≡ true → xs ≡ ys
unfolding same
same_true [] [] e = refl
same_true [] (y ∷ ys) e = absurd (true≢false (sym e))
same_true (x ∷ xs) [] e = absurd (true≢false (sym e))
same_true (x ∷ xs) (y ∷ ys) e =
    let p : (eqb x y ≡ true) × (same xs ys ≡ true) = and-true (eqb x y) (same xs ys) e in
    let h : x ≡ y = eqb-true x y p.0 in
    let t : xs ≡ ys = same_true xs ys p.1 in
    cc

pub different : (xs ys : List ℕ) → ¬ (xs ≡ ys) → same xs ys ≡ false
different xs ys ne = go (same xs ys) refl
  where
    go : (b : Bool) → same xs ys ≡ b → same xs ys ≡ false
    go true e = absurd (ne (same_true xs ys e))
    go false e = e
