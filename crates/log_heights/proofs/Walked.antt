-- What an iterator has left after some items. Assumes nothing.
use mathlib.Core.Path.{◌≡◌, refl, sym, ap, ap₂, subst, ◌∙◌}
use mathlib.Core.List.{List, [], ◌∷◌, ◌++◌, map, append-nil}
use Rattle.std.specs.Prelude.{Option, Some, None}
use Rattle.std.specs.Iterator.{AlwaysYields, Yields}
use Rattle.std.proofs.lemmas.Iterator.{YieldsList}

module _ {S A B : Type 0} (steps : S → Option A → S → Type 0) (v : A → B) where
  after : (xs : List A) (ys : List B) (k t : S) → AlwaysYields steps v k ys → Yields steps k xs t
      → (rest : List B) × (ys ≡ map v xs ++ rest) × AlwaysYields steps v t rest
  after [] ys k t e y = (ys, refl, subst (λ j. AlwaysYields steps v j ys) y e)
  after (x ∷ xs) [] k t e y = absurd (e x y.0 y.1)
  after (x ∷ xs) (z ∷ ys) k t e y =
      let m = e.1 x y.0 y.1 in
      let r = after xs ys y.0 t m.1 y.2 in
      (r.0, ap₂ ◌∷◌ (sym m.0) r.1, r.2)

module _ {S A B : Type 0} {steps : S → Option A → S → Type 0} {v : A → B} {s : S} {all : List B} where
  pub next_item : (xs : List A) (t u : S) (x : A) → YieldsList steps v s all → Yields steps s xs t → steps t (Some x) u
      → (rest : List B) × (all ≡ map v xs ++ (v x ∷ rest))
  next_item xs t u x e y p =
      let r = after steps v xs all s t e.runs y in
      by r.0 r.1 r.2
    where
      by : (rest : List B) → all ≡ map v xs ++ rest → AlwaysYields steps v t rest → (more : List B) × (all ≡ map v xs ++ (v x ∷ more))
      by [] q f = absurd (f x u p)
      by (z ∷ rest) q f = (rest, q ∙ ap (λ w. map v xs ++ (w ∷ rest)) (sym (f.1 x u p).0))

  pub all_items : (xs : List A) (t u : S) → YieldsList steps v s all → Yields steps s xs t → steps t None u → all ≡ map v xs
  all_items xs t u e y p =
      let r = after steps v xs all s t e.runs y in
      by r.0 r.1 r.2
    where
      by : (rest : List B) → all ≡ map v xs ++ rest → AlwaysYields steps v t rest → all ≡ map v xs
      by [] q f = q ∙ append-nil (map v xs)
      by (z ∷ rest) q f = absurd (f.0 u p)
