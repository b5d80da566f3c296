-- Two linked logs that hold the same frame in a slot agree in every slot below it; heights rise along a chain. Assumes nothing.
use Prim.Native.Nat.{ℕ, zero, suc, ◌≤◌, ◌<◌}
use mathlib.Core.Path.{◌≡◌, sym, ap, ◌∙◌, subst, refl}
use mathlib.Core.Logic.{◌⊎◌, inl, inr}
use mathlib.Core.List.{List}
use mathlib.Core.Bool.{Bool, true, false}
use native.Mathlib.Omega.{arith}
use lib.Dec.{leb}
use borrow.Author.Tests.{eqb-true, eq-eqb, leb-true, leb-false}
use Rattle.apollo.specs.Frame.{kind, round, height, parent, digest}
use Rattle.apollo.specs.Log.{genesis, filled}
use Rattle.theorem_agreement.proofs.Tests.{clash}
use Rattle.theorem_agreement.proofs.Frames.{round_genesis, height_genesis}

pub filled_kind : (x : List ℕ) → filled x ≡ true → kind x ≡ 1
filled_kind x e = eqb-true _ _ e

pub kind_filled : (x : List ℕ) → kind x ≡ 1 → filled x ≡ true
kind_filled x e = eq-eqb _ _ e

-- slot p is filled, or is the genesis
abbrev pub Held : (ℕ → List ℕ) → ℕ → Type 0
Held s p = (p ≡ 0) ⊎ (filled (s p) ≡ true)

-- frame x is on frame p: it names p, and is one higher
pub record Joins (p x : List ℕ) : Type 0 where
  pub named : digest p ≡ parent x
  pub rise : height x ≡ suc (height p)

pub record Link (s : ℕ → List ℕ) (q : ℕ) : Type 0 where
  pub below : ℕ
  pub less : below < q
  pub held : Held s below
  pub joins : Joins (s below) (s q)
  pub between : (k : ℕ) → below < k → k < q → filled (s k) ≡ false

module _ (T : ℕ) (passed : ℕ → Type 0) (known : ℕ → List ℕ → Type 0) where
  -- Slots linked up to a tip in round a. Of each filled slot something is known, and each genesis one below the tip was passed for a reason.
  pub record Chain (s : ℕ → List ℕ) (a : ℕ) : Type 0 where
    pub top : Held s a
    pub low : a ≤ T
    pub origin : s 0 ≡ genesis
    pub bare : (q : ℕ) → q ≤ T → filled (s q) ≡ false → s q ≡ genesis
    pub above : (q : ℕ) → a < q → filled (s q) ≡ false
    pub fact : (q : ℕ) → filled (s q) ≡ true → known q (s q)
    pub link : (q : ℕ) → filled (s q) ≡ true → Link s q
    pub level : (q : ℕ) → filled (s q) ≡ true → height (s q) ≤ q
    pub skip : (q : ℕ) → 1 ≤ q → q ≤ a → filled (s q) ≡ false → passed q

  -- a held slot is at or below the tip
  pub within : (s : ℕ → List ℕ) (a : ℕ) → Chain s a → (q : ℕ) → Held s q → q ≤ a
  within s a c q (inl e) = omega arith
  within s a c q (inr e) = go (leb q a) refl
    where
      go : (b : Bool) → leb q a ≡ b → q ≤ a
      go true t = leb-true _ _ t
      go false t = absurd (clash e (c.above q (leb-false _ _ t)))

  -- the genesis has height 0, and a held slot's height is at most its round
  pub held_level : (s : ℕ → List ℕ) (a : ℕ) → Chain s a → (q : ℕ) → Held s q → height (s q) ≤ q
  held_level s a c q (inl e) = omega (arith, ap (λ k. height (s k)) e, ap height c.origin, height_genesis)
  held_level s a c q (inr e) = c.level q e

  -- a held slot is no higher than a held slot above it: one link, and what is known below it
  rise_link : (s : ℕ → List ℕ) (r q : ℕ) → q ≤ r → Held s q → (m : Link s r) → (q ≤ m.below → height (s q) ≤ height (s m.below))
      → height (s q) ≤ height (s r)
  rise_link s r q l hq m ih = go (leb q m.below) refl (leb r q) refl
    where
      held_between : Held s q → m.below < q → q < r → ⊥
      held_between (inl z) x y = omega arith
      held_between (inr e) x y = clash e (m.between q x y)

      go : (x : Bool) → leb q m.below ≡ x → (y : Bool) → leb r q ≡ y → height (s q) ≤ height (s r)
      go true ex y ey = omega (arith, ih (leb-true _ _ ex), m.joins.rise)
      go false ex true ey =
          let h : r ≤ q = leb-true _ _ ey in
          let z : q ≡ r = omega arith in
          omega (arith, ap (λ k. height (s k)) z)
      go false ex false ey = absurd (held_between hq (leb-false _ _ ex) (leb-false _ _ ey))

  rise_to : (s : ℕ → List ℕ) (a : ℕ) → Chain s a → (n r q : ℕ) → r ≤ n → q ≤ r → Held s q → Held s r → height (s q) ≤ height (s r)
  rise_to s a c zero r q le l hq hr = let z : q ≡ r = omega arith in omega (arith, ap (λ k. height (s k)) z)
  rise_to s a c (suc n) r q le l hq (inl z) = let y : q ≡ r = omega arith in omega (arith, ap (λ k. height (s k)) y)
  rise_to s a c (suc n) r q le l hq (inr fr) =
      rise_link s r q l hq (c.link r fr) (λ b. rise_to s a c n _ q (omega (arith, (c.link r fr).less)) b hq (c.link r fr).held)

  pub rises : (s : ℕ → List ℕ) (a : ℕ) → Chain s a → (q r : ℕ) → q ≤ r → Held s q → Held s r → height (s q) ≤ height (s r)
  rises s a c q r l hq hr = rise_to s a c r r q (omega arith) l hq hr

  -- and a filled slot is higher than every held one below it
  pub climbs : (s : ℕ → List ℕ) (a : ℕ) → Chain s a → (k q : ℕ) → k < q → Held s k → filled (s q) ≡ true → height (s k) < height (s q)
  climbs s a c k q l hk f = go (leb k (c.link q f).below) refl
    where
      apart : Held s k → (c.link q f).below < k → ⊥
      apart (inl z) u = omega arith
      apart (inr e) u = clash e ((c.link q f).between k u l)

      go : (x : Bool) → leb k (c.link q f).below ≡ x → height (s k) < height (s q)
      go true e = omega (arith, (c.link q f).joins.rise, rises s a c k (c.link q f).below (leb-true _ _ e) hk (c.link q f).held)
      go false e = absurd (apart hk (leb-false _ _ e))

pub chain_map : (T : ℕ) (p p' : ℕ → Type 0) (k k' : ℕ → List ℕ → Type 0) (s : ℕ → List ℕ) (a : ℕ) → ((q : ℕ) → p q → p' q)
    → ((q : ℕ) (x : List ℕ) → k q x → k' q x) → Chain T p k s a → Chain T p' k' s a
chain_map T p p' k k' s a f g c =
    record {
      top = c.top;
      low = c.low;
      origin = c.origin;
      bare = c.bare;
      above = c.above;
      fact = λ q e. g q (s q) (c.fact q e);
      link = c.link;
      level = c.level;
      skip = λ q o l e. f q (c.skip q o l e);
    }

-- known frames are in their rounds and in a set of frames of which no two share a digest
module _ (T : ℕ) (known : ℕ → List ℕ → Type 0) (seen : List ℕ → Type 0) (rounds : (q : ℕ) (x : List ℕ) → known q x → round x ≡ q)
    (sees : (q : ℕ) (x : List ℕ) → known q x → seen x)
    (distinct : (x y : List ℕ) → (x ≡ genesis) ⊎ seen x → (y ≡ genesis) ⊎ seen y → digest x ≡ digest y → x ≡ y) where
  held_round : (p : ℕ → Type 0) (s : ℕ → List ℕ) (a : ℕ) → Chain T p known s a → (q : ℕ) → Held s q → round (s q) ≡ q
  held_round p s a c q (inl e) = ap round (ap s e ∙ c.origin) ∙ round_genesis ∙ sym e
  held_round p s a c q (inr e) = rounds q (s q) (c.fact q e)

  held_known : (p : ℕ → Type 0) (s : ℕ → List ℕ) (a : ℕ) → Chain T p known s a → (q : ℕ) → Held s q → (s q ≡ genesis) ⊎ seen (s q)
  held_known p s a c q (inl e) = inl (ap s e ∙ c.origin)
  held_known p s a c q (inr e) = inr (sees q (s q) (c.fact q e))

  module _ (p p' : ℕ → Type 0) (s t : ℕ → List ℕ) (a b : ℕ) (c : Chain T p known s a) (d : Chain T p' known t b) where
    -- two links from equal frames go to the same round
    same_below : (r : ℕ) (l : Link s r) (m : Link t r) → s r ≡ t r → (l.below ≡ m.below) × (s l.below ≡ t l.below)
    same_below r l m e =
        let h : s l.below ≡ t m.below =
        distinct (s l.below) (t m.below) (held_known p s a c l.below l.held) (held_known p' t b d m.below m.held)
        (l.joins.named ∙ ap parent e ∙ sym m.joins.named) in
        let k : l.below ≡ m.below =
        sym (held_round p s a c l.below l.held) ∙ ap round h ∙ held_round p' t b d m.below m.held in
        (k, h ∙ ap t (sym k))

    bare_both : (q : ℕ) → q ≤ T → filled (s q) ≡ false → filled (t q) ≡ false → s q ≡ t q
    bare_both q l e g = c.bare q l e ∙ sym (d.bare q l g)

    -- what is left of `agree` at r, once it is known below r
    agree_link : (r : ℕ) → filled (s r) ≡ true → (l : Link s r) (m : Link t r) → s r ≡ t r
        → ((p : ℕ) → p < r → Held s p → Held t p → s p ≡ t p → (q : ℕ) → q ≤ p → s q ≡ t q) → (q : ℕ) → q ≤ r → s q ≡ t q
    agree_link r fr l m e ih q le = go (leb q l.below) (leb r q) refl refl
      where
        k : l.below ≡ m.below
        k = (same_below r l m e).0

        go : (x y : Bool) → leb q l.below ≡ x → leb r q ≡ y → s q ≡ t q
        go true y ex ey =
            ih l.below l.less l.held (subst (Held t) (sym k) m.held) (same_below r l m e).1 q (leb-true _ _ ex)
        go false true ex ey = let z : q ≡ r = omega (arith, leb-true r q ey) in ap s z ∙ e ∙ sym (ap t z)
        go false false ex ey =
            bare_both q (omega (arith, within T p known s a c r (inr fr), c.low)) (l.between q (leb-false _ _ ex) (leb-false _ _ ey))
            (m.between q (subst (λ p. p < q) k (leb-false _ _ ex)) (leb-false _ _ ey))

    agree_to : (n r : ℕ) → r ≤ n → Held s r → Held t r → s r ≡ t r → (q : ℕ) → q ≤ r → s q ≡ t q
    agree_to zero r le hs ht e q l =
        let z : q ≡ 0 = omega arith in
        ap s z ∙ c.origin ∙ sym (ap t z ∙ d.origin)
    agree_to (suc n) r le (inl z) ht e q l =
        let y : q ≡ 0 = omega arith in
        ap s y ∙ c.origin ∙ sym (ap t y ∙ d.origin)
    agree_to (suc n) r le (inr fs) ht e q l =
        agree_link r fs (c.link r fs) (d.link r (ap filled (sym e) ∙ fs)) e
        (λ p lt hs ht' e'. agree_to n p (omega arith) hs ht' e') q l

    pub agree : (r : ℕ) → Held s r → Held t r → s r ≡ t r → (q : ℕ) → q ≤ r → s q ≡ t q
    agree r = agree_to r r (omega arith)
