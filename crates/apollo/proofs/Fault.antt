-- 7 and 8, whatever the form: what a frame that passes has, and which numbers come. Assumes nothing.
use Prim.Native.Nat.{ℕ, ◌+◌}
use mathlib.Core.Path.{◌≡◌}
use mathlib.Core.List.{List, [], ◌∷◌}
use mathlib.Core.Bool.{Bool, true, not}
use native.Mathlib.Omega.{arith}
use lib.Dec.{eqb}
use borrow.Author.Tests.{not-false}
use Rattle.apollo.specs.Frame.{checked}
use Rattle.apollo.specs.Judging.{Verdict, fault, judged_each}
use Rattle.apollo.proofs.Tests.{by_cond}

module _ (hash : List ℕ → List ℕ) (form : List ℕ → Bool) (x : List ℕ) where
  -- a right check, and the form
  abbrev pub Passes : Type 0
  Passes = (checked hash x ≡ true) × (form x ≡ true)

  pub fault_none : fault hash form x ≡ 0 → Passes
  unfolding fault
  fault_none e =
      by_cond (λ v. v ≡ 0 → Passes) (not (checked hash x)) (λ g v. absurd (omega arith))
      (λ g. by_cond (λ v. v ≡ 0 → Passes) (not (form x)) (λ h v. absurd (omega arith)) (λ h v. (not-false _ g, not-false _ h))) e

-- the numbers that come: 0, 7 and 8
module _ (P : ℕ → Type 0) (p0 : P 0) (p7 : P 7) (p8 : P 8) (hash : List ℕ → List ℕ) (form : List ℕ → Bool) where
  -- of a frame
  pub fault_number : (x : List ℕ) → P (fault hash form x)
  unfolding fault
  fault_number x = by_cond P (not (checked hash x)) (λ _. p7) (λ _. by_cond P (not (form x)) (λ _. p8) (λ _. p0))

  -- of frames, each by itself
  pub each_number : (k : ℕ) (xs : List (List ℕ)) → P (judged_each hash form k xs).number
  unfolding judged_each
  each_number k [] = p0
  each_number k (x ∷ xs) =
      let ih : P (judged_each hash form (k + 1) xs).number = each_number (k + 1) xs in
      by_cond (λ (v : Verdict). P v.number) (eqb (fault hash form x) 0) (λ _. ih) (λ _. fault_number x)
