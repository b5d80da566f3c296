-- A chain cut at a held round, and a chain with one block more. Assumes nothing.
use Prim.Native.Nat.{ℕ, suc, ◌≤◌, ◌<◌}
use mathlib.Core.Path.{◌≡◌, refl, sym, ap, ◌∙◌, subst}
use mathlib.Core.Logic.{◌⊎◌, inl, inr, ◌≢◌}
use mathlib.Core.List.{List}
use mathlib.Core.Bool.{Bool, true, false}
use native.Mathlib.Omega.{arith}
use lib.Dec.{eqb, leb}
use borrow.Author.Tests.{eqb-true, eqb-false, leb-true, leb-false}
use Rattle.apollo.specs.Frame.{kind, height, parent, digest}
use Rattle.apollo.specs.Log.{genesis, filled}
use Rattle.theorem_agreement.proofs.Tests.{clash}
use Rattle.theorem_agreement.proofs.Slots.{filled_genesis}
use Rattle.theorem_agreement.proofs.Chain.{Held, Joins, Link, Chain, kind_filled, within}

-- a held slot and a link stand in any slots that are the same up to there
pub held_same : (s t : ℕ → List ℕ) (p : ℕ) → s p ≡ t p → Held t p → Held s p
held_same s t p e (inl z) = inl z
held_same s t p e (inr g) = inr (ap filled e ∙ g)

joins_same : (p x p' x' : List ℕ) → p' ≡ p → x' ≡ x → Joins p x → Joins p' x'
joins_same p x p' x' e g j =
    record { named = ap digest e ∙ j.named ∙ ap parent (sym g); rise = ap height g ∙ j.rise ∙ ap (λ y. suc (height y)) (sym e) }

pub link_same : (s t : ℕ → List ℕ) (q : ℕ) → ((k : ℕ) → k ≤ q → s k ≡ t k) → Link t q → Link s q
link_same s t q e l =
    record {
      below = l.below;
      less = l.less;
      held = held_same s t l.below (e l.below (omega (arith, l.less))) l.held;
      joins = joins_same _ _ _ _ (e l.below (omega (arith, l.less))) (e q (omega arith)) l.joins;
      between = λ k a b. ap filled (e k (omega arith)) ∙ l.between k a b;
    }

module _ (T : ℕ) (passed : ℕ → Type 0) (known : ℕ → List ℕ → Type 0) where
  fact_same : (q : ℕ) (x y : List ℕ) → y ≡ x → known q x → known q y
  fact_same q x y e h = subst (known q) (sym e) h

  -- the slots of t up to round b, and no more
  module _ (s t : ℕ → List ℕ) (a b : ℕ) (c : Chain T passed known t a) (lb : b ≤ a) (hb : Held t b)
      (keeps : (q : ℕ) → q ≤ b → s q ≡ t q) (bares : (q : ℕ) → b < q → q ≤ T → s q ≡ genesis)
      (beyond : (q : ℕ) → T < q → filled (s q) ≡ false) where
    cut_above : (q : ℕ) → b < q → filled (s q) ≡ false
    cut_above q l = go (leb q T) refl
      where
        go : (z : Bool) → leb q T ≡ z → filled (s q) ≡ false
        go true e = ap filled (bares q l (leb-true _ _ e)) ∙ filled_genesis
        go false e = beyond q (leb-false _ _ e)

    cut_low : (q : ℕ) → filled (s q) ≡ true → q ≤ b
    cut_low q e = go (leb q b) refl
      where
        go : (z : Bool) → leb q b ≡ z → q ≤ b
        go true g = leb-true _ _ g
        go false g = absurd (clash e (cut_above q (leb-false _ _ g)))

    cut_bare : (q : ℕ) → q ≤ T → filled (s q) ≡ false → s q ≡ genesis
    cut_bare q l e = go (leb q b) refl
      where
        go : (z : Bool) → leb q b ≡ z → s q ≡ genesis
        go true g = keeps q (leb-true _ _ g) ∙ c.bare q l (ap filled (sym (keeps q (leb-true _ _ g))) ∙ e)
        go false g = bares q (leb-false _ _ g) l

    pub cut : Chain T passed known s b
    cut =
        record {
          top = held_same s t b (keeps b (omega arith)) hb;
          low = omega (arith, c.low);
          origin = keeps 0 (omega arith) ∙ c.origin;
          bare = cut_bare;
          above = cut_above;
          fact = λ q e. let l : q ≤ b = cut_low q e in
              fact_same q (t q) (s q) (keeps q l) (c.fact q (ap filled (sym (keeps q l)) ∙ e));
          link = λ q e. let l : q ≤ b = cut_low q e in
              link_same s t q (λ k m. keeps k (omega arith)) (c.link q (ap filled (sym (keeps q l)) ∙ e));
          level = λ q e. let l : q ≤ b = cut_low q e in
              omega (arith, ap height (keeps q l), c.level q (ap filled (sym (keeps q l)) ∙ e));
          skip = λ q o l e. c.skip q o (omega arith) (ap filled (sym (keeps q l)) ∙ e);
        }

  -- the slots of t with a block x in round r above its tip
  module _ (s t : ℕ → List ℕ) (a r : ℕ) (x : List ℕ) (c : Chain T passed known t a) (up : a < r) (lo : r ≤ T) (here : s r ≡ x)
      (others : (q : ℕ) → q ≢ r → s q ≡ t q) (block : kind x ≡ 1) (what : known r x) (joins : Joins (t a) x) (floor : height (t a) ≤ a)
      (skipped : (q : ℕ) → a < q → q < r → passed q) where
    -- a filled slot is the new one or one of the old
    new_or_old : (q : ℕ) → filled (s q) ≡ true → (q ≡ r) ⊎ ((q ≤ a) × (filled (t q) ≡ true))
    new_or_old q e = go (eqb q r) refl
      where
        go : (z : Bool) → eqb q r ≡ z → (q ≡ r) ⊎ ((q ≤ a) × (filled (t q) ≡ true))
        go true g = inl (eqb-true _ _ g)
        go false g =
            let h : filled (t q) ≡ true = ap filled (sym (others q (eqb-false _ _ g))) ∙ e in
            inr (within T passed known t a c q (inr h), h)

    ext_link : (q : ℕ) → (q ≡ r) ⊎ ((q ≤ a) × (filled (t q) ≡ true)) → Link s q
    ext_link q (inl e) =
        subst (Link s) (sym e)
        (record {
          below = a;
          less = up;
          held = held_same s t a (others a (omega arith)) c.top;
          joins = joins_same (t a) x (s a) (s r) (others a (omega arith)) here joins;
          between = λ k l m. ap filled (others k (omega arith)) ∙ c.above k l;
        })
    ext_link q (inr h) = link_same s t q (λ k m. others k (omega (arith, h.0))) (c.link q h.1)

    ext_fact : (q : ℕ) → (q ≡ r) ⊎ ((q ≤ a) × (filled (t q) ≡ true)) → known q (s q)
    ext_fact q (inl e) = subst (λ k. known k (s k)) (sym e) (fact_same r x (s r) here what)
    ext_fact q (inr h) = fact_same q (t q) (s q) (others q (omega (arith, h.0))) (c.fact q h.1)

    ext_level : (q : ℕ) → (q ≡ r) ⊎ ((q ≤ a) × (filled (t q) ≡ true)) → height (s q) ≤ q
    ext_level q (inl e) =
        let h : height (s q) ≡ suc (height (t a)) = ap (λ k. height (s k)) e ∙ ap height here ∙ joins.rise in
        omega arith
    ext_level q (inr h) = omega (arith, ap height (others q (omega (arith, h.0))), c.level q h.1)

    ext_filled : filled (s r) ≡ true
    ext_filled = ap filled here ∙ kind_filled x block

    -- an genesis slot of the new log is an genesis slot of the old
    ext_ne : (q : ℕ) → filled (s q) ≡ false → q ≢ r
    ext_ne q e z = clash (ap (λ k. filled (s k)) z ∙ ext_filled) e

    ext_skip : (q : ℕ) → 1 ≤ q → q ≤ r → filled (s q) ≡ false → passed q
    ext_skip q o l e = go (leb q a) refl
      where
        ne : q ≢ r
        ne = ext_ne q e

        go : (z : Bool) → leb q a ≡ z → passed q
        go true g = c.skip q o (leb-true _ _ g) (ap filled (sym (others q ne)) ∙ e)
        go false g = skipped q (leb-false _ _ g) (omega (arith, ne))

    pub extend : Chain T passed known s r
    extend =
        record {
          top = inr ext_filled;
          low = lo;
          origin = others 0 (omega arith) ∙ c.origin;
          bare = λ q l e. others q (ext_ne q e) ∙ c.bare q l (ap filled (sym (others q (ext_ne q e))) ∙ e);
          above = λ q l. ap filled (others q (omega arith)) ∙ c.above q (omega arith);
          fact = λ q e. ext_fact q (new_or_old q e);
          link = λ q e. ext_link q (new_or_old q e);
          level = λ q e. ext_level q (new_or_old q e);
          skip = ext_skip;
        }
