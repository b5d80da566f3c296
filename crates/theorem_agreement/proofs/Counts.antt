-- Counting the numbers below n that pass a test; a row of numbers of which one passes, or none. Assumes nothing.
use Prim.Native.Nat.{ℕ, zero, suc, ◌+◌, ◌≤◌, ◌<◌}
use mathlib.Core.Path.{◌≡◌, refl, ap, ◌∙◌}
use mathlib.Core.Logic.{◌⊎◌, inl, inr, ◌≢◌}
use mathlib.Core.Bool.{Bool, true, false, ◌&&◌, not, cond}
use native.Mathlib.Omega.{arith}
use lib.Dec.{eqb}
use borrow.Author.Tests.{eqb-true, eqb-false, eq-eqb, ne_eqb}
use Rattle.apollo.specs.Masks.{count}
use Rattle.theorem_agreement.proofs.Tests.{by_cond}

count_yes : (n : ℕ) (p : ℕ → Bool) → p n ≡ true → count (suc n) p ≡ suc (count n p)
unfolding count
count_yes n p e = rw e (omega arith)

count_no : (n : ℕ) (p : ℕ → Bool) → p n ≡ false → count (suc n) p ≡ count n p
unfolding count
count_no n p e = rw e (omega arith)

pub count_none : (n : ℕ) (p : ℕ → Bool) → ((i : ℕ) → p i ≡ false) → count n p ≡ 0
count_none zero p h = unfold count in refl
count_none (suc n) p h = count_no n p (h n) ∙ count_none n p h

-- more numbers pass p than q: one passes p alone
Found : ℕ → (ℕ → Bool) → (ℕ → Bool) → Type 0
Found n p q = (i : ℕ) × (i < n) × (p i ≡ true) × (q i ≡ false)

more_step : (n : ℕ) (p q : ℕ → Bool) → count (suc n) q < count (suc n) p → (count n q < count n p → Found n p q)
    → (a b : Bool) → p n ≡ a → q n ≡ b → Found (suc n) p q
unfolding Found
more_step n p q h ih true false ep eq = (n, omega arith, ep, eq)
more_step n p q h ih true true ep eq =
    let r : Found n p q = ih (omega (arith, count_yes n p ep, count_yes n q eq)) in
    (r.0, omega (arith, r.1), r.2, r.3)
more_step n p q h ih false true ep eq =
    let r : Found n p q = ih (omega (arith, count_no n p ep, count_yes n q eq)) in
    (r.0, omega (arith, r.1), r.2, r.3)
more_step n p q h ih false false ep eq =
    let r : Found n p q = ih (omega (arith, count_no n p ep, count_no n q eq)) in
    (r.0, omega (arith, r.1), r.2, r.3)

pub more : (n : ℕ) (p q : ℕ → Bool) → count n q < count n p → (i : ℕ) × (i < n) × (p i ≡ true) × (q i ≡ false)
unfolding Found
more zero p q h = absurd (unfold count in omega arith)
more (suc n) p q h = more_step n p q h (more n p q) (p n) (q n) refl refl

-- what passes p passes q
pub count_mono : (n : ℕ) (p q : ℕ → Bool) → ((i : ℕ) → p i ≡ true → q i ≡ true) → count n p ≤ count n q
unfolding count
count_mono zero p q h = omega arith
count_mono (suc n) p q h =
    let ih : count n p ≤ count n q = count_mono n p q h in
    by_cond (λ k. k + count n p ≤ cond (q n) 1 0 + count n q) (p n) (λ e. rw (h n e) (omega arith)) (λ e. omega arith)

-- p without x
without : (ℕ → Bool) → ℕ → ℕ → Bool
without p x i = p i && not (eqb i x)

without_other : (p : ℕ → Bool) (x i : ℕ) → i ≢ x → without p x i ≡ p i
unfolding without
without_other p x i ne = rw (ne_eqb i x ne) (go (p i))
  where
    go : (b : Bool) → (b && true) ≡ b
    go true = refl
    go false = refl

without_self : (p : ℕ → Bool) (x : ℕ) → without p x x ≡ false
unfolding without
without_self p x = rw (eq-eqb x x refl) (go (p x))
  where
    go : (b : Bool) → (b && false) ≡ false
    go true = refl
    go false = refl

count_ext : (n : ℕ) (p q : ℕ → Bool) → ((i : ℕ) → i < n → p i ≡ q i) → count n p ≡ count n q
unfolding count
count_ext zero p q h = refl
count_ext (suc n) p q h =
    rw (h n (omega arith)) (ap (λ k. cond (q n) 1 0 + k) (count_ext n p q (λ i l. h i (omega arith))))

count_here : (n : ℕ) (p : ℕ → Bool) (x : ℕ) → n ≡ x → p x ≡ true → count (suc n) p ≡ suc (count (suc n) (without p x))
count_here n p x q e =
    let y : count (suc n) p ≡ suc (count n p) = count_yes n p (ap p q ∙ e) in
    let z : count (suc n) (without p x) ≡ count n (without p x) = count_no n (without p x) (ap (without p x) q ∙ without_self p x) in
    let s : count n (without p x) ≡ count n p = count_ext n (without p x) p (λ i l. without_other p x i (omega arith)) in
    omega arith

count_there : (n : ℕ) (p : ℕ → Bool) (x : ℕ) → n ≢ x → count n p ≡ suc (count n (without p x)) → (b : Bool) → p n ≡ b
    → count (suc n) p ≡ suc (count (suc n) (without p x))
count_there n p x ne ih true e =
    let y : count (suc n) p ≡ suc (count n p) = count_yes n p e in
    let z : count (suc n) (without p x) ≡ suc (count n (without p x)) = count_yes n (without p x) (without_other p x n ne ∙ e) in
    omega arith
count_there n p x ne ih false e =
    let y : count (suc n) p ≡ count n p = count_no n p e in
    let z : count (suc n) (without p x) ≡ count n (without p x) = count_no n (without p x) (without_other p x n ne ∙ e) in
    omega arith

count_step : (n : ℕ) (p : ℕ → Bool) (x : ℕ) → p x ≡ true → (n ≢ x → count n p ≡ suc (count n (without p x))) → (b : Bool) → eqb n x ≡ b
    → count (suc n) p ≡ suc (count (suc n) (without p x))
count_step n p x e ih true q = count_here n p x (eqb-true _ _ q) e
count_step n p x e ih false q = count_there n p x (eqb-false _ _ q) (ih (eqb-false _ _ q)) (p n) refl

count_without : (n : ℕ) (p : ℕ → Bool) (x : ℕ) → x < n → p x ≡ true → count n p ≡ suc (count n (without p x))
count_without zero p x h e = absurd (omega arith)
count_without (suc n) p x h e = count_step n p x e (λ ne. count_without n p x (omega arith) e) (eqb n x) refl

-- k different numbers below n that pass: the count is at least k
pub spread : (k n : ℕ) (g : ℕ → ℕ) (p : ℕ → Bool) → ((i : ℕ) → i < k → g i < n) → ((i : ℕ) → i < k → p (g i) ≡ true)
    → ((i j : ℕ) → i < j → j < k → g i ≢ g j) → k ≤ count n p
spread zero n g p low hit apart = omega arith
spread (suc k) n g p low hit apart =
    let c : count n p ≡ suc (count n (without p (g k))) = count_without n p (g k) (low k (omega arith)) (hit k (omega arith)) in
    let r : k ≤ count n (without p (g k)) =
    spread k n g (without p (g k)) (λ i l. low i (omega arith))
    (λ i l. without_other p (g k) (g i) (apart i k l (omega arith)) ∙ hit i (omega arith)) (λ i j a b. apart i j a (omega arith)) in
    omega arith

-- one of the k numbers from r on passes, or none does
abbrev pub Row : (ℕ → Bool) → ℕ → ℕ → Type 0
Row p r k = ((q : ℕ) × (r ≤ q) × (q < r + k) × (p q ≡ true)) ⊎ ((q : ℕ) → r ≤ q → q < r + k → p q ≡ false)

row_step : (p : ℕ → Bool) (r k : ℕ) → Row p r k → (b : Bool) → p (r + k) ≡ b → Row p r (suc k)
row_step p r k (inl h) b e = inl (h.0, h.1, omega (arith, h.2), h.3)
row_step p r k (inr h) true e = inl (r + k, omega arith, omega arith, e)
row_step p r k (inr h) false e = inr (λ q a l. last q a l (eqb q (r + k)) refl)
  where
    last : (q : ℕ) → r ≤ q → q < r + suc k → (b : Bool) → eqb q (r + k) ≡ b → p q ≡ false
    last q a l true z = ap p (eqb-true _ _ z) ∙ e
    last q a l false z = let ne : q ≢ r + k = eqb-false _ _ z in h q a (omega arith)

pub row : (p : ℕ → Bool) (r k : ℕ) → Row p r k
row p r zero = inr (λ q a l. absurd (omega arith))
row p r (suc k) = row_step p r k (row p r k) (p (r + k)) refl
