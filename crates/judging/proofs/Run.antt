-- A frame of a run that has no frame before it. Assumes nothing.
use mathlib.Core.Path.{◌≡◌, refl, sym}
use mathlib.Core.Bool.{Bool, true, false, cond}
use mathlib.Core.Option.{none}
use mathlib.Core.List.{List}
use Prim.Native.Nat.{ℕ}
use lib.Dec.{eqb}
use borrow.Author.Tests.{eqb-true}
use Rattle.sha256.specs.Fips.{sha256}
use Rattle.apollo.specs.declared.Setup.{Setup}
use Rattle.apollo.specs.BlockRun.{faulty, judged_next}

-- behind nothing 9 does not come
pub next_any : (s : Setup) (x : List ℕ) → judged_next sha256 s none x ≡ faulty sha256 s x
unfolding judged_next
next_any s x = go (eqb (faulty sha256 s x) 0) refl
  where
    go : (z : Bool) → eqb (faulty sha256 s x) 0 ≡ z → cond z 0 (faulty sha256 s x) ≡ faulty sha256 s x
    go true e = sym (eqb-true _ 0 e)
    go false e = refl
