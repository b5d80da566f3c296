-- `find` over the numbers of a range from its end down, said of the numbers and not of a list. Assumes nothing.
use mathlib.Core.Path.{◌≡◌, refl, sym, ap, subst, ◌∙◌}
use mathlib.Core.Bool.{Bool, true, false}
use mathlib.Core.List.{List, [], ◌∷◌}
use Prim.Native.Nat.{ℕ, zero, suc, ◌+◌, ◌-◌, ◌≤◌, ◌<◌}
use native.Mathlib.Omega.{arith}
use lib.ListN.{length, get_or}
use denote.Ref.{Bor}
use denote.Param.Members.{Mut}
use Rattle.std.specs.Prelude.{Option, None, Some}
use Rattle.std.specs.declared.iter.Rev.{Rev}
use Rattle.std.specs.declared.ops.Range.{Range}
use Rattle.std.specs.Bool.{⊤}
use Rattle.std.specs.Fn.{CalledAt}
use Rattle.std.specs.Iterator.{AlwaysYields, YieldsThen}
use Rattle.std.specs.Iterator.Adapters.{rev_source, rev_steps}
use Rattle.std.specs.List.{FoldsTo, AllWithin, HoldsAt}
use Rattle.std.specs.Option.{MatchOption}
use Rattle.std.specs.Range.{range_steps_back}
use Rattle.std.proofs.lemmas.Iterator.{first_from_find}

-- n numbers from a on, the last first
down : (a n : ℕ) → List ℕ
down a zero = []
down a (suc n) = (a + n) ∷ down a n

length_down : (a n : ℕ) → length (down a n) ≡ n
unfolding down
length_down a zero = refl
length_down a (suc n) = ap suc (length_down a n)

down_at : (a n i d : ℕ) → i < n → get_or (down a n) i d + i + 1 ≡ a + n
unfolding down
down_at a zero i d h = absurd (omega arith)
down_at a (suc n) zero d h = omega arith
down_at a (suc n) (suc i) d h = omega (arith, down_at a n i d (omega arith))

abbrev pub back : Rev (Range ℕ) → Option ℕ → Rev (Range ℕ) → Type 0
back = rev_steps (range_steps_back (λ x y. y - x) (λ x y. y ≡ x + 1))

gives_down : (a n : ℕ) (s : Rev (Range ℕ)) → (rev_source s).start ≡ a → (rev_source s).end - a ≡ n → AlwaysYields back (λ x. x) s (down a n)
unfolding down
gives_down a zero s f e = λ x j p. omega (arith, f, e, p.1.0)
gives_down a (suc n) s f e = (
  (λ j p. omega (arith, f, e, p.1.0)),
  λ x j p. (omega (arith, e, p.1.1, p.1.2), gives_down a n j (p.0 ∙ f) (omega (arith, e, p.1.2))),
)

module _ (No : ℕ → Type 0) (a n i : ℕ) (h : AllWithin No (down a n) 0 i) (l : i ≤ n) where
  none_in : (k : ℕ) → a + n ≤ k + i → k < a + n → No k
  none_in k b c =
      let j : ℕ = a + n - 1 - k in
      let e : get_or (down a n) j 0 ≡ k = omega (arith, down_at a n j 0 (omega arith)) in
      subst No e (h j 0 (omega arith) (omega arith))

-- what `find` gives over the numbers from a up to, not including, e
abbrev pub FirstBack : (a e : ℕ) (Yes No : ℕ → Type 0) → Option ℕ → Type 0
FirstBack a e Yes No o = MatchOption o ((k : ℕ) → a ≤ k → k < e → No k) (λ i. (a ≤ i) × (i < e) × Yes i × ((k : ℕ) → i < k → k < e → No k))

module _ {F : Type 0} {g : Mut F (Bor ℕ × Unit {0}) Bool} (s u : Rev (Range ℕ)) (f : F) (r : Option ℕ) (Yes No : ℕ → Type 0)
    (q : Range ℕ) (is : rev_source s ≡ q) where
  pub first_from_back : (xs : List ℕ) × (j : F) × YieldsThen back s xs r u
      × FoldsTo (λ p x q. CalledAt g p x false q) f xs j × MatchOption r ⊤ (λ x. (h : F) × CalledAt g j x true h)
      → ((x : ℕ) (q : F) → CalledAt g f x true q → Yes x)
      → ((x : ℕ) (q : F) → CalledAt g f x false q → (q ≡ f) × No x) → FirstBack q.start q.end Yes No r
  first_from_back d yes' no' =
      let e = gives_down q.start n s (ap (λ (k : Range ℕ). k.start) is) (ap (λ (k : Range ℕ). k.end - q.start) is) in
      by r (first_from_find {steps = back} {s = s} u f r Yes No d (record { runs = e }) yes' no')
    where
      n : ℕ
      n = q.end - q.start

      by : (o : Option ℕ) → MatchOption o (AllWithin No (down q.start n) 0 (length (down q.start n)))
          (λ x. Yes x × (i : ℕ) × (i < length (down q.start n)) × HoldsAt (λ y. y ≡ x) (down q.start n) i
          × AllWithin No (down q.start n) 0 i)
          → FirstBack q.start q.end Yes No o
      by None h = λ k a b.
          none_in No q.start n _ h (omega (arith, length_down q.start n)) k (omega (arith, length_down q.start n)) (omega arith)
      by (Some x) h =
          let l : h.1 < q.end - q.start = omega (arith, h.2, length_down q.start n) in
          let at : x + h.1 + 1 ≡ q.start + (q.end - q.start) = omega (arith, sym (h.3 0), down_at q.start n h.1 0 l) in
          (omega arith, omega arith, h.0, λ k a b. none_in No q.start n h.1 h.4 (omega arith) k (omega arith) (omega arith))
