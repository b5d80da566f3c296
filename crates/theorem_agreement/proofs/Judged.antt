-- Frames judged, each by itself or as a run: which numbers come, and what holds of frames that pass. Assumes nothing.
use Prim.Native.Nat.{ℕ, ◌+◌}
use mathlib.Core.Path.{◌≡◌, refl, subst⁻¹}
use mathlib.Core.Logic.{⊎_elim}
use mathlib.Core.List.{List, [], ◌∷◌}
use mathlib.Core.Option.{Option}
use mathlib.Core.Bool.{Bool, false}
use lib.Dec.{eqb}
use borrow.Author.Tests.{eqb-true, eqb-false}
use Rattle.sha256.specs.Fips.{sha256}
use Rattle.apollo.specs.declared.Setup.{Setup}
use Rattle.apollo.specs.Judging.{Verdict, fault, judged_each}
use Rattle.apollo.specs.BlockRun.{judged_run}
use Rattle.apollo.proofs.Fault.{Passes, fault_none, each_number}
use Rattle.apollo.proofs.BlockRun.{run_number}
use Rattle.theorem_agreement.specs.Run.{In}
use Rattle.theorem_agreement.proofs.Tests.{by_cond}

-- a number other than 2, 12 and 6
abbrev pub Low : ℕ → Type 0
Low k = (eqb k 2 ≡ false) × (eqb k 12 ≡ false) × (eqb k 6 ≡ false)

-- a run of blocks
pub run_low : (s : Setup) (k : ℕ) (p : Option (List ℕ)) (xs : List (List ℕ)) → Low (judged_run sha256 s k p xs).number
run_low = run_number Low (refl, refl, refl) (refl, refl, refl) (refl, refl, refl) (refl, refl, refl)

module _ (hash : List ℕ → List ℕ) (form : List ℕ → Bool) where
  pub each_low : (k : ℕ) (xs : List (List ℕ)) → Low (judged_each hash form k xs).number
  each_low = each_number Low (refl, refl, refl) (refl, refl, refl) (refl, refl, refl) hash form

  pub each_none : (k : ℕ) (xs : List (List ℕ)) → (judged_each hash form k xs).number ≡ 0 → (x : List ℕ) → In x xs → Passes hash form x
  unfolding judged_each
  each_none k [] e x p = absurd p
  each_none k (y ∷ ys) e x p =
      by_cond (λ (v : Verdict). v.number ≡ 0 → Passes hash form x) (eqb (fault hash form y) 0)
      (λ g v. ⊎_elim (λ q. subst⁻¹ (Passes hash form) q (fault_none hash form y (eqb-true _ _ g))) (λ q. each_none (k + 1) ys v x q) p)
      (λ g v. absurd (eqb-false _ _ g v)) e
