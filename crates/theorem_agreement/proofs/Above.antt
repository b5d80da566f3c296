-- The chain frames of a linked log above a height are those of the rounds above some held one. Assumes nothing.
use Prim.Native.Nat.{ℕ, zero, suc, ◌+◌, ◌≤◌, ◌<◌}
use mathlib.Core.Path.{◌≡◌, refl, sym, ap, ap₂, ◌∙◌, subst}
use mathlib.Core.Logic.{◌⊎◌, inl, inr, ⊎_elim}
use mathlib.Core.List.{List, [], ◌∷◌, ◌++◌}
use mathlib.Core.Bool.{Bool, true, false, cond}
use native.Mathlib.Omega.{arith}
use lib.ListN.{length}
use lib.Dec.{leb, ltb}
use borrow.Author.Tests.{leb-true, leb-false, ltb-true, ltb-false, lt-ltb, le-ltb}
use Rattle.apollo.specs.Frame.{height}
use Rattle.apollo.specs.Log.{slot, filled, chain}
use Rattle.apollo.specs.Fetch.{above}
use Rattle.apollo.proofs.Fetch.{above_append}
use Rattle.theorem_agreement.specs.Run.{In}
use Rattle.theorem_agreement.proofs.Tests.{clash, either, by_cond, cond_true, cond_false}
use Rattle.theorem_agreement.proofs.Frames.{height_genesis}
use Rattle.theorem_agreement.proofs.Chain.{Held, Link, Chain, climbs}

-- the filled slots of the m rounds above lo
unfoldable pub segment : (log : List ℕ) (lo m : ℕ) → List (List ℕ)
segment log lo zero = []
segment log lo (suc m) = cond (filled (slot log (lo + 1))) (slot log (lo + 1) ∷ segment log (lo + 1) m) (segment log (lo + 1) m)

-- slot q alone, if it is filled
abbrev lone : (log : List ℕ) (q : ℕ) → List (List ℕ)
lone log q = cond (filled (slot log q)) (slot log q ∷ []) []

segment_last : (log : List ℕ) (lo m q : ℕ) → lo + suc m ≡ q → segment log lo (suc m) ≡ segment log lo m ++ lone log q
unfolding segment
segment_last log lo zero q e = ap (lone log) e
segment_last log lo (suc m) q e =
    let ih : segment log (lo + 1) (suc m) ≡ segment log (lo + 1) m ++ lone log q = segment_last log (lo + 1) m q (omega arith) in
    go (filled (slot log (lo + 1))) ih
  where
    go : (b : Bool) → segment log (lo + 1) (suc m) ≡ segment log (lo + 1) m ++ lone log q
        → cond b (slot log (lo + 1) ∷ segment log (lo + 1) (suc m)) (segment log (lo + 1) (suc m))
        ≡ cond b (slot log (lo + 1) ∷ segment log (lo + 1) m) (segment log (lo + 1) m) ++ lone log q
    go true ih = ap (λ zs. slot log (lo + 1) ∷ zs) ih
    go false ih = ih

-- a whole chain
pub segment_chain : (log : List ℕ) (n : ℕ) → chain log n ≡ segment log 0 n
unfolding chain segment
segment_chain log zero = refl
segment_chain log (suc n) = ap (λ us. us ++ lone log (suc n)) (segment_chain log n) ∙ sym (segment_last log 0 n (suc n) (omega arith))

pub segment_length : (log : List ℕ) (lo m : ℕ) → length (segment log lo m) ≤ m
unfolding segment
segment_length log lo zero = omega arith
segment_length log lo (suc m) =
    let ih : length (segment log (lo + 1) m) ≤ m = segment_length log (lo + 1) m in
    go (filled (slot log (lo + 1))) ih
  where
    go : (b : Bool) → length (segment log (lo + 1) m) ≤ m
        → length (cond b (slot log (lo + 1) ∷ segment log (lo + 1) m) (segment log (lo + 1) m)) ≤ suc m
    go true ih = omega arith
    go false ih = omega arith

-- each of its frames is in a filled slot
pub segment_in : (log : List ℕ) (lo m : ℕ) (x : List ℕ) → In x (segment log lo m) → (q : ℕ) × (filled (slot log q) ≡ true) × (x ≡ slot log q)
unfolding segment
segment_in log lo zero x p = absurd p
segment_in log lo (suc m) x i =
    by_cond (λ zs. In x zs → (q : ℕ) × (filled (slot log q) ≡ true) × (x ≡ slot log q)) (filled (slot log (lo + 1)))
    (λ f p. ⊎_elim (λ e. (lo + 1, f, e)) (segment_in log (lo + 1) m x) p) (λ _. segment_in log (lo + 1) m x) i

-- what comes after one of its frames is the segment above that frame's round
pub record After (log : List ℕ) (top : ℕ) (x : List ℕ) (ys : List (List ℕ)) : Type 0 where
  pub at : ℕ
  pub left : ℕ
  pub to : at + left ≡ top
  pub full : filled (slot log at) ≡ true
  pub here : x ≡ slot log at
  pub rest : ys ≡ segment log at left

pub segment_after : (log : List ℕ) (lo m : ℕ) (xs : List (List ℕ)) (x : List ℕ) (ys : List (List ℕ)) → segment log lo m ≡ xs ++ (x ∷ ys)
    → After log (lo + m) x ys
unfolding segment
segment_after log lo zero [] x ys e = let z : ◌≡◌ {A = ℕ} 0 1 = cc in absurd (omega arith)
segment_after log lo zero (y ∷ xs) x ys e = let z : ◌≡◌ {A = ℕ} 0 1 = cc in absurd (omega arith)
segment_after log lo (suc m) xs x ys e =
    let t : lo + 1 + m ≡ lo + suc m = omega arith in
    go (filled (slot log (lo + 1))) refl xs e (λ us v. subst (λ n. After log n x ys) t (segment_after log (lo + 1) m us x ys v))
  where
    first : filled (slot log (lo + 1)) ≡ true → (us : List (List ℕ)) → slot log (lo + 1) ∷ segment log (lo + 1) m ≡ us ++ (x ∷ ys)
        → ((vs : List (List ℕ)) → segment log (lo + 1) m ≡ vs ++ (x ∷ ys) → After log (lo + suc m) x ys) → After log (lo + suc m) x ys
    first f [] v ih = record { at = lo + 1; left = m; to = omega arith; full = f; here = cc; rest = cc }
    first f (u ∷ us) v ih = ih us (cc)

    go : (b : Bool) → filled (slot log (lo + 1)) ≡ b → (us : List (List ℕ))
        → cond b (slot log (lo + 1) ∷ segment log (lo + 1) m) (segment log (lo + 1) m) ≡ us ++ (x ∷ ys)
        → ((vs : List (List ℕ)) → segment log (lo + 1) m ≡ vs ++ (x ∷ ys) → After log (lo + suc m) x ys) → After log (lo + suc m) x ys
    go true f us v ih = first f us v ih
    go false f us v ih = ih us v

above_nil : (h : ℕ) → above h [] ≡ []
unfolding above
above_nil h = refl

above_step : (h : ℕ) (log : List ℕ) (n : ℕ) → above h (chain log (suc n)) ≡ above h (chain log n) ++ above h (lone log (suc n))
unfolding chain
above_step h log n = above_append h (chain log n) (lone log (suc n))

module _ (h : ℕ) (log : List ℕ) (q : ℕ) where
  lone_none : filled (slot log q) ≡ false → lone log q ≡ []
  lone_none e = cond_false _ _ e

  lone_above : h < height (slot log q) → above h (lone log q) ≡ lone log q
  unfolding above
  lone_above l =
      by_cond (λ zs. above h zs ≡ zs) (filled (slot log q)) (λ _. cond_true _ _ (lt-ltb h (height (slot log q)) l)) (λ _. refl)

  lone_low : height (slot log q) ≤ h → above h (lone log q) ≡ []
  unfolding above
  lone_low l =
      by_cond (λ zs. above h zs ≡ []) (filled (slot log q)) (λ _. cond_false _ _ (le-ltb h (height (slot log q)) l)) (λ _. refl)

-- no frame of the chain up to round n is above h
none_above : (h : ℕ) (log : List ℕ) (n : ℕ) → ((q : ℕ) → 1 ≤ q → q ≤ n → filled (slot log q) ≡ true → height (slot log q) ≤ h)
    → above h (chain log n) ≡ []
unfolding chain above
none_above h log zero low = refl
none_above h log (suc n) low =
    above_append h (chain log n) (lone log (suc n))
    ∙ ap₂ (λ (us vs : List (List ℕ)). us ++ vs) (none_above h log n (λ q o l. low q o (omega arith))) (go (either (filled (slot log (suc n)))))
  where
    go : (filled (slot log (suc n)) ≡ true) ⊎ (filled (slot log (suc n)) ≡ false) → above h (lone log (suc n)) ≡ []
    go (inl f) = lone_low h log (suc n) (low (suc n) (omega arith) (omega arith) f)
    go (inr f) = ap (above h) (lone_none h log (suc n) f)

-- a linked log
module _ (T : ℕ) (passed : ℕ → Type 0) (known : ℕ → List ℕ → Type 0) (log : List ℕ) (a : ℕ) (c : Chain T passed known (slot log) a) where
  -- a filled slot's parent is in the nearest held round below it
  pub below_is : (q k : ℕ) → filled (slot log q) ≡ true → k < q → Held (slot log) k
      → ((r : ℕ) → k < r → r < q → filled (slot log r) ≡ false) → (m : Link (slot log) q) → m.below ≡ k
  below_is q k f l hk gap m = go (leb k m.below) refl (leb m.below k) refl
    where
      apart : Held (slot log) k → m.below < k → ⊥
      apart (inl z) u = omega arith
      apart (inr e) u = clash e (m.between k u l)

      apart_too : Held (slot log) m.below → k < m.below → ⊥
      apart_too (inl z) u = omega arith
      apart_too (inr e) u = clash e (gap m.below u m.less)

      go : (x : Bool) → leb k m.below ≡ x → (y : Bool) → leb m.below k ≡ y → m.below ≡ k
      go true ex true ey = omega (arith, leb-true k m.below ex, leb-true m.below k ey)
      go false ex y ey = absurd (apart hk (leb-false _ _ ex))
      go true ex false ey = absurd (apart_too m.held (leb-false _ _ ey))

  -- the frames above h of the chain up to round n
  pub record Cut (h n : ℕ) : Type 0 where
    pub from : ℕ
    pub more : ℕ
    pub to : from + more ≡ n
    pub held : Held (slot log) from
    pub under : height (slot log from) ≤ h
    pub over : (q : ℕ) → from < q → q ≤ n → filled (slot log q) ≡ true → h < height (slot log q)
    pub is : above h (chain log n) ≡ segment log from more

  -- one round more: nothing in it, a frame above h, or one that is not
  module _ (h n : ℕ) (p : Cut h n) where
    at : (q : ℕ) → q ≤ suc n → (q ≤ n) ⊎ (q ≡ suc n)
    at q l = go (leb q n) refl
      where
        go : (b : Bool) → leb q n ≡ b → (q ≤ n) ⊎ (q ≡ suc n)
        go true e = inl (leb-true _ _ e)
        go false e = inr (omega (arith, leb-false q n e))

    wider : (filled (slot log (suc n)) ≡ true → h < height (slot log (suc n))) → above h (lone log (suc n)) ≡ lone log (suc n) → Cut h (suc n)
    wider high e =
        record {
          from = p.from;
          more = suc p.more;
          to = omega (arith, p.to);
          held = p.held;
          under = p.under;
          over = λ q l m f. over q l f (at q m);
          is =
              above_step h log n ∙ ap₂ (λ (us vs : List (List ℕ)). us ++ vs) p.is e
              ∙ sym (segment_last log p.from p.more (suc n) (omega (arith, p.to)));
        }
      where
        over : (q : ℕ) → p.from < q → filled (slot log q) ≡ true → (q ≤ n) ⊎ (q ≡ suc n) → h < height (slot log q)
        over q l f (inl m) = p.over q l m f
        over q l f (inr z) =
            let t : filled (slot log (suc n)) ≡ true = ap (λ k. filled (slot log k)) (sym z) ∙ f in
            omega (arith, high t, ap (λ k. height (slot log k)) z)

    afresh : filled (slot log (suc n)) ≡ true → height (slot log (suc n)) ≤ h → Cut h (suc n)
    unfolding segment
    afresh f low =
        record {
          from = suc n;
          more = 0;
          to = omega arith;
          held = inr f;
          under = low;
          over = λ q l m e. absurd (omega arith);
          is =
              above_step h log n
              ∙ ap₂ (λ (us vs : List (List ℕ)). us ++ vs)
              (none_above h log n (λ q o l e. omega (arith, climbs T passed known (slot log) a c q (suc n) (omega arith) (inr e) f))) (lone_low h log (suc n) low);
        }

    cut_next : (filled (slot log (suc n)) ≡ true) ⊎ (filled (slot log (suc n)) ≡ false) → Cut h (suc n)
    cut_next (inr f) =
        let z : lone log (suc n) ≡ [] = lone_none h log (suc n) f in
        wider (λ t. absurd (clash t f)) (ap (above h) z ∙ above_nil h ∙ sym z)
    cut_next (inl f) = go (ltb h (height (slot log (suc n)))) refl
      where
        go : (b : Bool) → ltb h (height (slot log (suc n))) ≡ b → Cut h (suc n)
        go true e = let l : h < height (slot log (suc n)) = ltb-true _ _ e in wider (λ _. l) (lone_above h log (suc n) l)
        go false e = afresh f (ltb-false _ _ e)

  pub cut : (h n : ℕ) → Cut h n
  unfolding chain above segment
  cut h zero =
      record {
        from = 0;
        more = 0;
        to = refl;
        held = inl refl;
        under = omega (arith, ap height c.origin, height_genesis);
        over = λ q l m f. absurd (omega arith);
        is = refl;
      }
  cut h (suc n) = cut_next h n (cut h n) (either (filled (slot log (suc n))))

  -- it starts at a held round of just that height
  pub cut_from : (h n k : ℕ) (p : Cut h n) → k ≤ n → Held (slot log) k → height (slot log k) ≡ h → p.from ≡ k
  cut_from h n k p l hk e = go (leb k p.from) refl (leb p.from k) refl
    where
      higher : Held (slot log) p.from → k < p.from → ⊥
      higher (inl z) u = omega arith
      higher (inr f) u = omega (arith, climbs T passed known (slot log) a c k p.from u hk f, p.under)

      lower : Held (slot log) k → p.from < k → ⊥
      lower (inl z) u = omega arith
      lower (inr f) u = omega (arith, p.over k u l f)

      go : (x : Bool) → leb k p.from ≡ x → (y : Bool) → leb p.from k ≡ y → p.from ≡ k
      go true ex true ey = omega (arith, leb-true k p.from ex, leb-true p.from k ey)
      go true ex false ey = absurd (higher p.held (leb-false _ _ ey))
      go false ex y ey = absurd (lower hk (leb-false _ _ ex))
