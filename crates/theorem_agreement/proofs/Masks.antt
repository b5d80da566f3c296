-- The masks after a blame: whose bits are set, and which rounds are certified. Assumes nothing.
use Prim.Native.Nat.{ℕ, zero, suc, ◌+◌, ◌-◌, ◌≤◌, ◌<◌}
use mathlib.Core.Path.{◌≡◌, refl, sym, ap, ◌∙◌}
use mathlib.Core.Logic.{◌⊎◌, inl, inr, ◌≢◌}
use mathlib.Core.List.{List}
use mathlib.Core.Bool.{Bool, true, false}
use native.Mathlib.Omega.{arith}
use lib.ListN.{length, get_or, length-set}
use lib.Seq.{get_or-set_same, get_or-set_other, set_out}
use lib.Dec.{eqb, leb}
use borrow.Author.Tests.{eqb-true, eqb-false, leb-true, leb-false, le-leb}
use Rattle.apollo.specs.declared.Setup.{Setup}
use Rattle.apollo.specs.Setup.{replicas}
use Rattle.apollo.specs.Masks.{count, bit, set_bit, mask, add_blame, certified, gap}
use Rattle.apollo.proofs.Masks.{bit_set_other, bit_kept}
use Rattle.theorem_agreement.proofs.Tests.{by_cond}
use Rattle.theorem_agreement.proofs.Counts.{count_mono}

-- a bit that is set after a blame was set before, or is the blame's
mask_other : (masks : List ℕ) (r i q : ℕ) → q - 1 ≢ r - 1 → mask (add_blame masks r i) q ≡ mask masks q
mask_other masks r i q ne = get_or-set_other masks (r - 1) (q - 1) _ 0 ne

mask_here : (masks : List ℕ) (r i : ℕ) → r - 1 < length masks → mask (add_blame masks r i) r ≡ set_bit i (mask masks r)
mask_here masks r i l = get_or-set_same masks (r - 1) _ 0 l

mask_out : (masks : List ℕ) (r i : ℕ) → length masks ≤ r - 1 → add_blame masks r i ≡ masks
mask_out masks r i l = set_out masks (r - 1) _ l

pub certified_other : (s : Setup) (masks : List ℕ) (r i q : ℕ) → q - 1 ≢ r - 1 → certified s (add_blame masks r i) q ≡ certified s masks q
unfolding certified
certified_other s masks r i q ne = ap (λ m. leb (s.f + 1) (count (replicas s) (λ k. bit k m))) (mask_other masks r i q ne)

pub length_blame : (masks : List ℕ) (r i : ℕ) → length (add_blame masks r i) ≡ length masks
length_blame masks r i = length-set masks (r - 1) _

pub mask_set : (masks : List ℕ) (r i q k : ℕ) → 1 ≤ r → 1 ≤ q → bit k (mask (add_blame masks r i) q) ≡ true
    → (bit k (mask masks q) ≡ true) ⊎ ((q ≡ r) × (k ≡ i))
mask_set masks r i q k o p e = go (eqb q r) refl (leb (length masks) (r - 1)) refl (eqb k i) refl
  where
    go : (z : Bool) → eqb q r ≡ z → (y : Bool) → leb (length masks) (r - 1) ≡ y → (x : Bool) → eqb k i ≡ x
        → (bit k (mask masks q) ≡ true) ⊎ ((q ≡ r) × (k ≡ i))
    go false ez y ey x ex =
        let ne : q ≢ r = eqb-false _ _ ez in
        inl (ap (bit k) (sym (mask_other masks r i q (λ z. ne (omega (arith, z))))) ∙ e)
    go true ez true ey x ex = inl (ap (λ m. bit k (mask m q)) (sym (mask_out masks r i (leb-true _ _ ey))) ∙ e)
    go true ez false ey true ex = inr (eqb-true _ _ ez, eqb-true _ _ ex)
    go true ez false ey false ex =
        let z : q ≡ r = eqb-true _ _ ez in
        let l : r - 1 < length masks = leb-false _ _ ey in
        let b : bit k (set_bit i (mask masks r)) ≡ true =
        ap (bit k) (sym (mask_here masks r i l)) ∙ ap (λ m. bit k (mask (add_blame masks r i) m)) (sym z) ∙ e in
        inl (ap (λ m. bit k (mask masks m)) z ∙ sym (bit_set_other k i (mask masks r) (eqb-false _ _ ex)) ∙ b)

-- a bit that is set stays set, and a certified round stays certified
mask_same : (masks : List ℕ) (r q : ℕ) → q - 1 ≡ r - 1 → mask masks q ≡ mask masks r
mask_same masks r q e = ap (λ k. get_or masks k 0) e

mask_kept : (masks : List ℕ) (r i q k : ℕ) → bit k (mask masks q) ≡ true → bit k (mask (add_blame masks r i) q) ≡ true
mask_kept masks r i q k e = go (eqb (q - 1) (r - 1)) refl (leb (length masks) (r - 1)) refl
  where
    go : (z : Bool) → eqb (q - 1) (r - 1) ≡ z → (y : Bool) → leb (length masks) (r - 1) ≡ y → bit k (mask (add_blame masks r i) q) ≡ true
    go z ez true ey = ap (λ m. bit k (mask m q)) (mask_out masks r i (leb-true _ _ ey)) ∙ e
    go false ez false ey = ap (bit k) (mask_other masks r i q (eqb-false _ _ ez)) ∙ e
    go true ez false ey =
        let s : q - 1 ≡ r - 1 = eqb-true _ _ ez in
        ap (bit k) (mask_same (add_blame masks r i) r q s ∙ mask_here masks r i (leb-false _ _ ey))
        ∙ bit_kept i k (mask masks r) (ap (bit k) (sym (mask_same masks r q s)) ∙ e)

pub certified_kept : (s : Setup) (masks : List ℕ) (r i q : ℕ) → certified s masks q ≡ true → certified s (add_blame masks r i) q ≡ true
unfolding certified
certified_kept s masks r i q e =
    le-leb (s.f + 1) (count (replicas s) (λ k. bit k (mask (add_blame masks r i) q))) (omega (
      arith,
      leb-true (s.f + 1) (count (replicas s) (λ k. bit k (mask masks q))) e,
      count_mono (replicas s) (λ k. bit k (mask masks q)) (λ k. bit k (mask (add_blame masks r i) q)) (λ k. mask_kept masks r i q k),
    ))

-- the first of some rounds above lo that is not certified is none: each is certified
gap_first : (s : Setup) (masks : List ℕ) (lo k q : ℕ) → lo < q → q ≤ lo + suc k → certified s masks (lo + 1) ≡ true
    → (lo + 1 < q → q ≤ lo + 1 + k → certified s masks q ≡ true) → (z : Bool) → eqb q (lo + 1) ≡ z → certified s masks q ≡ true
gap_first s masks lo k q a b c ih true z = ap (certified s masks) (eqb-true _ _ z) ∙ c
gap_first s masks lo k q a b c ih false z = let ne : q ≢ lo + 1 = eqb-false _ _ z in ih (omega arith) (omega arith)

pub gap_none : (s : Setup) (masks : List ℕ) (lo k : ℕ) → gap s masks lo k ≡ 0 → (q : ℕ) → lo < q → q ≤ lo + k
    → certified s masks q ≡ true
unfolding gap
gap_none s masks lo zero e q a b = absurd (omega arith)
gap_none s masks lo (suc k) e q a b =
    by_cond (λ g. g ≡ 0 → certified s masks q ≡ true) (certified s masks (lo + 1))
    (λ c g. gap_first s masks lo k q a b c (gap_none s masks (lo + 1) k g q) (eqb q (lo + 1)) refl) (λ c g. absurd (omega arith)) e
