-- The frames above a height, of two lists end to end. Assumes nothing.
use Prim.Native.Nat.{ℕ}
use mathlib.Core.Path.{◌≡◌, refl, ap}
use mathlib.Core.List.{List, [], ◌∷◌, ◌++◌}
use mathlib.Core.Bool.{Bool, true, false, cond}
use lib.Dec.{ltb}
use Rattle.apollo.specs.Frame.{height}
use Rattle.apollo.specs.Fetch.{above}

pub above_append : (h : ℕ) (xs ys : List (List ℕ)) → above h (xs ++ ys) ≡ above h xs ++ above h ys
unfolding above
above_append h [] ys = refl
above_append h (x ∷ xs) ys = go (ltb h (height x)) (above_append h xs ys)
  where
    go : (b : Bool) → above h (xs ++ ys) ≡ above h xs ++ above h ys
        → cond b (x ∷ above h (xs ++ ys)) (above h (xs ++ ys)) ≡ cond b (x ∷ above h xs) (above h xs) ++ above h ys
    go true e = ap (λ (zs : List (List ℕ)). x ∷ zs) e
    go false e = e
