-- A round that is found, and one that is not. Assumes nothing.
use mathlib.Core.Path.{◌≡◌, refl}
use Prim.Native.Nat.{ℕ, zero, suc}
use Rattle.std.specs.Prelude.{Some, None}
use Rattle.apollo.specs.Found.{found}

pub found_none : (r : ℕ) → r ≡ 0 → None ≡ found r
unfolding found
found_none r e = rw e

pub found_some : (r : ℕ) → (r ≡ 0 → ⊥) → Some r ≡ found r
unfolding found
found_some zero n = absurd (n refl)
found_some (suc r) n = refl

-- the other way round
pub none_found : (r : ℕ) → None ≡ found r → r ≡ 0
unfolding found
none_found zero e = refl
none_found (suc r) e = cc

pub some_found : (r q : ℕ) → Some q ≡ found r → (r ≡ q) × (q ≡ 0 → ⊥)
unfolding found
some_found zero q e = cc
some_found (suc r) q e = (cc, λ z. cc)
