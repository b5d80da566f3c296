-- What came to pass, as it grows: nothing is lost, and what is new was handed in or emitted just now. Assumes nothing.
use Prim.Native.Nat.{ℕ}
use mathlib.Core.Path.{◌≡◌, sym, ap, ◌∙◌, refl}
use mathlib.Core.Logic.{◌⊎◌, inl, inr}
use mathlib.Core.List.{List, [], ◌∷◌}
use mathlib.Core.Bool.{true, cond}
use Rattle.sha256.specs.Fips.{sha256}
use Rattle.apollo.specs.Frame.{checked}
use Rattle.theorem_agreement.specs.Run.{Event, handed, emitted, In, Seen, hand, emit}
use Rattle.theorem_agreement.proofs.Tests.{clash, by_cond}

abbrev pub Grows : List Event → List Event → Type 0
Grows past now = (e : Event) → In e past → In e now

pub seen_grows : (past now : List Event) → Grows past now → (x : List ℕ) → Seen x past → Seen x now
seen_grows past now g x (inl p) = inl (g (handed x) p)
seen_grows past now g x (inr p) = inr (p.0, g (emitted p.0 x) p.1)

pub emitted_is : (i j : ℕ) (x y : List ℕ) → emitted i x ≡ emitted j y → (i ≡ j) × (x ≡ y)
emitted_is i j x y e = (cc, cc)

-- frames emitted
pub emit_grows : (i : ℕ) (xs : List (List ℕ)) (past : List Event) → Grows past (emit i xs past)
unfolding emit
emit_grows i [] past e p = p
emit_grows i (x ∷ xs) past e p = emit_grows i xs (emitted i x ∷ past) e (inr p)

pub emit_back : (i : ℕ) (xs : List (List ℕ)) (past : List Event) (e : Event) → In e (emit i xs past)
    → In e past ⊎ ((x : List ℕ) × (e ≡ emitted i x))
unfolding emit
emit_back i [] past e p = inl p
emit_back i (y ∷ ys) past e p = go (emit_back i ys (emitted i y ∷ past) e p)
  where
    go : ((e ≡ emitted i y) ⊎ In e past) ⊎ ((x : List ℕ) × (e ≡ emitted i x)) → In e past ⊎ ((x : List ℕ) × (e ≡ emitted i x))
    go (inl (inl q)) = inr (y, q)
    go (inl (inr q)) = inl q
    go (inr q) = inr q

-- frames handed in
pub hand_grows : (xs : List (List ℕ)) (past : List Event) → Grows past (hand xs past)
unfolding hand
hand_grows [] past e p = p
hand_grows (x ∷ xs) past e p =
    hand_grows xs (cond (checked sha256 x) (handed x ∷ past) past) e
    (by_cond (λ (es : List Event). In e es) (checked sha256 x) (λ _. inr p) (λ _. p))

pub hand_in : (xs : List (List ℕ)) (past : List Event) (x : List ℕ) → In x xs → checked sha256 x ≡ true → In (handed x) (hand xs past)
unfolding hand
hand_in [] past x p r = absurd p
hand_in (y ∷ ys) past x (inl e) r =
    hand_grows ys (cond (checked sha256 y) (handed y ∷ past) past) (handed x)
    (by_cond (λ (es : List Event). In (handed x) es) (checked sha256 y) (λ _. inl (ap handed e))
    (λ w. absurd (clash (ap (checked sha256) (sym e) ∙ r) w)))
hand_in (y ∷ ys) past x (inr p) r = hand_in ys (cond (checked sha256 y) (handed y ∷ past) past) x p r

-- what a call handed in
abbrev pub Given : Event → List (List ℕ) → Type 0
Given e xs = (x : List ℕ) × In x xs × (checked sha256 x ≡ true) × (e ≡ handed x)

pub hand_back : (xs : List (List ℕ)) (past : List Event) (e : Event) → In e (hand xs past) → In e past ⊎ Given e xs
unfolding hand
hand_back [] past e p = inl p
hand_back (y ∷ ys) past e p = go (hand_back ys (cond (checked sha256 y) (handed y ∷ past) past) e p)
  where
    now : In e (cond (checked sha256 y) (handed y ∷ past) past) → In e past ⊎ Given e (y ∷ ys)
    now =
        by_cond (λ (es : List Event). In e es → In e past ⊎ Given e (y ∷ ys)) (checked sha256 y) (λ c. new c) (λ _ q. inl q)
      where
        new : checked sha256 y ≡ true → (e ≡ handed y) ⊎ In e past → In e past ⊎ Given e (y ∷ ys)
        new c (inl q) = inr (y, inl refl, c, q)
        new c (inr q) = inl q

    go : In e (cond (checked sha256 y) (handed y ∷ past) past) ⊎ Given e ys → In e past ⊎ Given e (y ∷ ys)
    go (inl q) = now q
    go (inr q) = inr (q.0, inr q.1, q.2, q.3)
