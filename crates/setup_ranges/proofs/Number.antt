-- The number of a set-up, and of what was lent. Assumes nothing.
use mathlib.Core.Path.{◌≡◌, refl, ap}
use mathlib.Core.Bool.{Bool, true, false, ◌&&◌, not, cond}
use mathlib.Core.List.{List}
use Prim.Native.Nat.{ℕ}
use native.Mathlib.Omega.{arith}
use lib.Dec.{eqb}
use lib.ListN.{length}
use borrow.Author.Tests.{not-false}
use Rattle.apollo.specs.declared.Setup.{Setup}
use Rattle.apollo.specs.Rotation.{is_rotation}
use Rattle.apollo.specs.Setup.{setup, replicas, valid_rotation, valid_limits, setup_number}
use Rattle.apollo.specs.Refusal.{bad_setup, bad_rotation}
use Rattle.apollo.proofs.Tests.{by_cond}
use Rattle.apollo.proofs.Rotation.{padded_same}
use Rattle.apollo.proofs.Validity.{limits}
use Rattle.setup_ranges.specs.Number.{lent_number}

-- f and T of a set-up that passed
pub lent_limits : (s : Setup) (size : ℕ) → lent_number s size ≡ 0 → valid_limits s ≡ true
unfolding lent_number
lent_limits s size e =
    by_cond (λ n. n ≡ 0 → valid_limits s ≡ true) (not (valid_limits s)) (λ _ v. absurd (omega (arith, v))) (λ l _. not-false _ l) e

-- of f, T and a rotation as they were lent
pub lent_is : (f last : ℕ) (rotation : List ℕ) → lent_number (setup f last rotation) (length rotation) ≡ setup_number f last rotation
unfolding lent_number setup_number
lent_is f last rotation = go (valid_limits (setup f last rotation)) refl
  where
    refusal : (a b : Bool) → ℕ
    refusal a b = cond (not a) bad_setup (cond (not b) bad_rotation 0)

    go : (b : Bool) → valid_limits (setup f last rotation) ≡ b
        → refusal b (eqb (length rotation) (replicas (setup f last rotation)) && valid_rotation (setup f last rotation))
        ≡ refusal b (is_rotation (replicas (setup f last rotation)) rotation)
    go true e =
        let l = limits (setup f last rotation) e in
        ap (refusal true) (padded_same (setup f last rotation) rotation (omega (arith, l.f_most)) refl)
    go false e = refl
