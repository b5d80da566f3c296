-- Where a frame attaches: the search downward. Assumes nothing.
use mathlib.Core.Path.{◌≡◌, refl, ap, ◌∙◌}
use mathlib.Core.Bool.{Bool, true, false, ◌&&◌, cond}
use mathlib.Core.Option.{none, some}
use mathlib.Core.List.{List}
use Prim.Native.Nat.{ℕ, zero, suc, ◌-◌, ◌≤◌, ◌<◌}
use native.Mathlib.Omega.{arith}
use lib.Dec.{eqb}
use borrow.Author.Tests.{eqb-true, eqb-false}
use Rattle.std.specs.Prelude.{Option, None, Some}
use Rattle.std.specs.Option.{MatchOption}
use Rattle.apollo.specs.Frame.{linked}
use Rattle.apollo.specs.Log.{genesis, slot, filled, attach}
use Rattle.branch_links.specs.Answers.{attach_of}
use Rattle.branch_links.proofs.Downward.{FirstBack}

module _ (log x : List ℕ) where
  -- frame x attaches to slot r
  abbrev pub Attaches : Bool → ℕ → Type 0
  Attaches b r = (filled (slot log r) && linked (slot log r) x) ≡ b

  -- of the slots from 1 up to n it attaches to none, and r is the highest
  pub attach_none : (n : ℕ) → ((k : ℕ) → 1 ≤ k → k ≤ n → Attaches false k) → cond (linked genesis x) (some 0) none ≡ attach log x n
  unfolding attach
  attach_none zero h = refl
  attach_none (suc n) h = rw (h (suc n) (omega arith) (omega arith)) (attach_none n (λ k a b. h k a (omega arith)))

  pub attach_some : (n r : ℕ) → 1 ≤ r → r ≤ n → Attaches true r → ((k : ℕ) → r < k → k ≤ n → Attaches false k) → some r ≡ attach log x n
  unfolding attach
  attach_some zero r a b t h = absurd (omega arith)
  attach_some (suc n) r a b t h = by (eqb r (suc n)) refl (λ q. attach_some n r a q t (λ k c d. h k c (omega arith)))
    where
      by : (e : Bool) → eqb r (suc n) ≡ e → (r ≤ n → some r ≡ attach log x n)
          → some r ≡ cond (filled (slot log (suc n)) && linked (slot log (suc n)) x) (some (suc n)) (attach log x n)
      by true e f =
          let q : r ≡ suc n = eqb-true r (suc n) e in
          rw (rw q at t) (ap some q)
      by false e f =
          let q : r ≤ n = omega (arith, eqb-false r (suc n) e) in
          rw (h (suc n) (omega arith) (omega arith)) (f q)

  genesis_told : (b : Bool) → attach_of (cond b (Some 0) None) ≡ cond b (some 0) none
  genesis_told true = refl
  genesis_told false = refl

  -- by what a search of the rounds below e finds, from there downwards, and what is answered then
  pub attach_told : (e : ℕ) (r q : Option ℕ) → FirstBack 1 e (Attaches true) (Attaches false) r
      → (N : Type 0) (S : ℕ → Type 0) → MatchOption r N S
      → (N → q ≡ cond (linked genesis x) (Some 0) None) → ((i : ℕ) → S i → q ≡ Some i) → attach_of q ≡ attach log x (e - 1)
  attach_told e None q h N S m a b =
      ap attach_of (a m) ∙ genesis_told (linked genesis x) ∙ attach_none (e - 1) (λ k c d. h k c (omega arith))
  attach_told e (Some i) q h N S m a b =
      ap attach_of (b i m) ∙ attach_some (e - 1) i h.0 (omega (arith, h.1)) h.2 (λ k c d. h.3 k c (omega (arith, h.0, h.1)))

-- a slot below the frame's own
pub attach_le : (log x : List ℕ) (r a : ℕ) → attach log x r ≡ some a → a ≤ r
unfolding attach
attach_le log x zero a e = by (linked genesis x) e
  where
    by : (b : Bool) → cond b (some 0) none ≡ some a → a ≤ 0
    by true p =
        let z : 0 ≡ a = cc in
        omega arith
    by false p =
        let z : ◌≡◌ {A = ℕ} 0 1 = cc in
        omega arith
attach_le log x (suc r) a e = by (filled (slot log (suc r)) && linked (slot log (suc r)) x) e (attach_le log x r a)
  where
    by : (b : Bool) → cond b (some (suc r)) (attach log x r) ≡ some a → (attach log x r ≡ some a → a ≤ r) → a ≤ suc r
    by true p f =
        let z : suc r ≡ a = cc in
        omega arith
    by false p f = omega (arith, f p)
