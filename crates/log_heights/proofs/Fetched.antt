-- The frames that fetch copies, one by one. Assumes nothing.
use mathlib.Core.Path.{◌≡◌, refl, sym, ap, subst, ◌∙◌}
use mathlib.Core.Bool.{Bool, true, false, ◌&&◌, cond}
use mathlib.Core.List.{List, [], ◌∷◌, ◌++◌, map, flatten, append_assoc, append-nil}
use Prim.Native.Nat.{ℕ, zero, suc, ◌+◌, ◌-◌, ◌*◌, ◌≤◌, ◌<◌, min}
use native.Mathlib.Numerals.{add-one}
use native.Mathlib.Omega.{arith}
use lib.Dec.{ltb}
use lib.ListN.{length, take, drop, length-take, length-drop, length-append, length-map}
use lib.Seq.{take_at, drop-append-add, drop-drop}
use denote.Ref.{Bor}
use denote.Param.Members.{Mut}
use Rattle.std.specs.Prelude.{Option, Some, None}
use Rattle.std.specs.List.{filter}
use Rattle.std.specs.Fn.{CalledAt}
use Rattle.std.specs.Iterator.{Yields}
use Rattle.std.specs.Iterator.Adapters.{filter_source, filter_callee, filter_steps, take_source, take_count, take_steps}
use Rattle.std.specs.Slice.Iter.{chunks_exact_rest, chunks_exact_size, chunks_exact_steps}
use Rattle.std.specs.declared.iter.Filter.{Filter}
use Rattle.std.specs.declared.iter.Take.{Take}
use Rattle.std.specs.declared.slice.ChunksExact.{ChunksExact}
use Rattle.std.proofs.lemmas.Iterator.{YieldsList, YieldsList-from_take}
use Rattle.std.proofs.lemmas.Iterator.Consumers.{YieldsList-from_filter}
use Rattle.std.proofs.lemmas.List.{take_min, map-append}
use Rattle.apollo.specs.Size.{frame_size}
use Rattle.apollo.specs.Frame.{height}
use Rattle.apollo.specs.Log.{slot, filled, store, chain}
use Rattle.apollo.specs.Fetch.{above}
use Rattle.apollo.proofs.Fetch.{above_append}
use Rattle.apollo.proofs.Frames.{Whole, whole_take}
use Rattle.std.specs.Option.{MatchOption}
use Rattle.log_heights.specs.Fetch.{is_tall, last_low}
use Rattle.log_heights.proofs.Search.{slots, length_slots, YieldsList-from_rest, First}
use Rattle.log_heights.proofs.Walked.{next_item, all_items}

whole_slots : (log : List ℕ) (lo n : ℕ) → frame_size * (lo + n) ≤ length log → Whole (slots log lo n)
unfolding slot
whole_slots log lo zero h = tt
whole_slots log lo (suc n) h = (rw add-one (simp (length-take, length-drop) (omega arith)), whole_slots log (lo + 1) n (omega arith))

whole_filter : (p : List ℕ → Bool) (xs : List (List ℕ)) → Whole xs → Whole (filter p xs)
whole_filter p [] w = tt
whole_filter p (x ∷ xs) w = by (p x) (whole_filter p xs w.1)
  where
    by : (b : Bool) → Whole (filter p xs) → Whole (cond b (x ∷ filter p xs) (filter p xs))
    by true f = (w.0, f)
    by false f = f

whole_at : (xs : List (List ℕ)) (x : List ℕ) (ys : List (List ℕ)) → Whole (xs ++ (x ∷ ys)) → length x ≡ frame_size
whole_at [] x ys w = w.0
whole_at (z ∷ xs) x ys w = whole_at xs x ys w.1

filter_most : (p : List ℕ → Bool) (xs : List (List ℕ)) → length (filter p xs) ≤ length xs
filter_most p [] = omega arith
filter_most p (x ∷ xs) = by (p x) (filter_most p xs)
  where
    by : (b : Bool) → length (filter p xs) ≤ length xs → length (cond b (x ∷ filter p xs) (filter p xs)) ≤ suc (length xs)
    by true f = omega (arith, f)
    by false f = omega (arith, f)

above_one : (h : ℕ) (x : List ℕ) (b : Bool) → above h (cond b (x ∷ []) []) ≡ cond (b && ltb h (height x)) (x ∷ []) []
unfolding above
above_one h x true = refl
above_one h x false = refl

flatten_append : (xs ys : List (List ℕ)) → flatten (xs ++ ys) ≡ flatten xs ++ flatten ys
unfolding flatten
flatten_append [] ys = refl
flatten_append (x ∷ xs) ys = rw (flatten_append xs ys) (sym (append_assoc x (flatten xs) (flatten ys)))

module _ (log : List ℕ) (h : ℕ) where
  -- the frames that fetch copies up to round r
  abbrev pub up_to : (r : ℕ) → List (List ℕ)
  up_to r = above h (chain log r)

  up_more : (r : ℕ) → up_to (suc r) ≡ up_to r ++ cond (is_tall (slot log (suc r)) h) (slot log (suc r) ∷ []) []
  unfolding chain is_tall
  up_more r =
      above_append h (chain log r) (cond (filled (slot log (suc r))) (slot log (suc r) ∷ []) [])
      ∙ ap (λ (l : List (List ℕ)). up_to r ++ l) (above_one h (slot log (suc r)) (filled (slot log (suc r))))

  -- none up to the last round before the first
  low_none : (m lo : ℕ) → up_to lo ≡ [] → (last_low log h lo m ≤ lo + m) × (up_to (last_low log h lo m) ≡ [])
  unfolding last_low
  low_none zero lo e = (omega arith, e)
  low_none (suc m) lo e = by (low_none m (lo + 1)) (is_tall (slot log (lo + 1)) h) refl
    where
      by : (up_to (lo + 1) ≡ [] → (last_low log h (lo + 1) m ≤ lo + 1 + m) × (up_to (last_low log h (lo + 1) m) ≡ []))
          → (b : Bool) → is_tall (slot log (lo + 1)) h ≡ b
          → (cond b lo (last_low log h (lo + 1) m) ≤ lo + suc m) × (up_to (cond b lo (last_low log h (lo + 1) m)) ≡ [])
      by ih true t = (omega arith, e)
      by ih false t =
          let f : is_tall (slot log (suc lo)) h ≡ false = rw add-one at t in
          let r : (last_low log h (lo + 1) m ≤ lo + 1 + m) × (up_to (last_low log h (lo + 1) m) ≡ []) =
          ih (rw add-one (up_more lo ∙ rw (e, f))) in
          (omega (arith, r.0), r.1)

  pub last_low_lem : (c r : ℕ) → r ≡ last_low log h 0 c → (r ≤ c) × (up_to r ≡ [])
  last_low_lem c r e =
      let n : (last_low log h 0 c ≤ 0 + c) × (up_to (last_low log h 0 c) ≡ []) = low_none c 0 (unfold chain above in refl) in
      rw e (omega (arith, n.0), n.1)

  -- that round found among the slots
  pub low_first : (lo n : ℕ) (r : Option ℕ) → First (λ x. is_tall x h ≡ true) (λ x. is_tall x h ≡ false) (slots log lo n) r
      → MatchOption r (last_low log h lo n ≡ lo + n) (λ i. (i < n) × (last_low log h lo n ≡ lo + i))
  unfolding last_low
  low_first lo zero None e = omega arith
  low_first lo (suc n) None e =
      let f : last_low log h (lo + 1) n ≡ lo + 1 + n = low_first (lo + 1) n None (λ k d a b. e (suc k) d (omega arith) (omega arith)) in
      rw (e 0 [] (omega arith) (omega arith)) (omega (arith, f))
  low_first lo zero (Some i) e = absurd (omega (arith, e.0))
  low_first lo (suc n) (Some zero) e = (omega arith, rw (e.1 []) (omega arith))
  low_first lo (suc n) (Some (suc i)) e =
      let f : (i < n) × (last_low log h (lo + 1) n ≡ lo + 1 + i) =
      low_first (lo + 1) n (Some i) (omega (arith, e.0), e.1, λ k d a b. e.2 (suc k) d (omega arith) (omega arith)) in
      (omega (arith, f.0), rw (e.2 0 [] (omega arith) (omega arith)) (omega (arith, f.1)))

  pub low_told : (n : ℕ) (r : Option ℕ)
      → MatchOption r (last_low log h 0 n ≡ 0 + n) (λ i. (i < n) × (last_low log h 0 n ≡ 0 + i)) → n < 4294967296
      → (q : ℕ) (Nothing : Type 0) (Thing : ℕ → Type 0) → MatchOption r Nothing Thing
      → (Nothing → q ≡ n) → ((i : ℕ) → Thing i → i < 4294967296 → q ≡ i) → q ≡ last_low log h 0 n
  low_told n None f g q N S e a b = omega (arith, f, a e)
  low_told n (Some i) f g q N S e a b = omega (arith, f.1, b i e (omega (arith, f.0)))

  first_or_not : (b : Bool) (x : List ℕ) (xs : List (List ℕ)) → cond b (x ∷ xs) xs ≡ cond b (x ∷ []) [] ++ xs
  first_or_not true x xs = refl
  first_or_not false x xs = refl

  tall_slots : (lo n : ℕ) → up_to lo ++ filter (λ x. is_tall x h) (slots log lo n) ≡ up_to (lo + n)
  tall_slots lo zero =
      let e : lo + 0 ≡ lo = omega arith in
      rw e (append-nil (up_to lo))
  tall_slots lo (suc n) =
      let e : lo + suc n ≡ suc lo + n = omega arith in
      let t : List (List ℕ) = filter (λ x. is_tall x h) (slots log (suc lo) n) in
      let g : List (List ℕ) = cond (is_tall (slot log (suc lo)) h) (slot log (suc lo) ∷ []) [] in
      let i : up_to (suc lo) ++ t ≡ up_to (suc lo + n) = tall_slots (suc lo) n in
      rw (e, add-one, first_or_not (is_tall (slot log (suc lo)) h) (slot log (suc lo)) t)
      (sym (append_assoc (up_to lo) g t) ∙ ap (λ (l : List (List ℕ)). l ++ t) (sym (up_more lo)) ∙ i)

  -- the slots that a walk from above round lo up to round c takes, of which there is room for n
  abbrev pub taken : (lo c n : ℕ) → List (List ℕ)
  taken lo c n = take n (filter (λ x. is_tall x h) (slots log lo (c - lo)))

  taken_is : (lo c n : ℕ) → lo ≤ c → up_to lo ≡ [] → taken lo c n ≡ take n (above h (chain log c))
  taken_is lo c n l z =
      let e : lo + (c - lo) ≡ c = omega arith in
      ap (take n) (rw z at (tall_slots lo (c - lo)) ∙ ap up_to e)

  module _ (lo c n : ℕ) (l : lo ≤ c) (g : frame_size * c ≤ length log) where
    taken_size : (xs : List (List ℕ)) (x : List ℕ) (ys : List (List ℕ)) → taken lo c n ≡ xs ++ (x ∷ ys) → length x ≡ frame_size
    taken_size xs x ys e =
        whole_at xs x ys (rw e at (whole_take n _ (whole_filter (λ x. is_tall x h) _ (whole_slots log lo (c - lo) (omega arith)))))

    taken_most : length (taken lo c n) ≤ c
    taken_most =
        let t : List (List ℕ) = filter (λ x. is_tall x h) (slots log lo (c - lo)) in
        omega (arith, length-take n t, filter_most (λ x. is_tall x h) (slots log lo (c - lo)), length_slots log lo (c - lo))

    -- the iterator that gives them
    pub tall_yields : {F : Type 0} {g : Mut F (Bor (Bor (List ℕ)) × Unit {0}) Bool}
        → (k : ChunksExact ℕ) (f : Filter (ChunksExact ℕ) F) (w s : Take (Filter (ChunksExact ℕ) F))
        → chunks_exact_rest k ≡ take (frame_size * c - frame_size * lo) (drop (frame_size * lo) log) → chunks_exact_size k ≡ frame_size
        → (p : F) → filter_source f ≡ k → filter_callee f ≡ p → take_source w ≡ f → take_count w ≡ n → s ≡ w
        → ((x : Bor (List ℕ)) (b : Bool) (q : F) → CalledAt g p x b q → (q ≡ p) × (b ≡ is_tall x.now h))
        → YieldsList (take_steps (filter_steps chunks_exact_steps g)) (λ x. x.now) s (taken lo c n)
    tall_yields {F} {g = m} k f w s e z p i j a b r d =
        rw r
        (YieldsList-from_take {s = w} n
        (subst
        (λ o. YieldsList (filter_steps chunks_exact_steps m) (λ x. x.now) o (filter (λ x. is_tall x h) (slots log lo (c - lo)))) (sym a)
        (YieldsList-from_filter {s = f} m (λ x. is_tall x h)
        (subst (λ o. YieldsList chunks_exact_steps (λ x. x.now) o (slots log lo (c - lo))) (sym i)
        (YieldsList-from_rest log lo c l g e z)) j d)) b)

    -- an iterator that gives them: the next one, and the end
    module _ {S : Type 0} {steps : S → Option (Bor (List ℕ)) → S → Type 0} {s : S}
        (xs : List (Bor (List ℕ))) (t u : S) (y : Yields steps s xs t) (all : YieldsList steps (λ x. x.now) s (taken lo c n)) where
      pub taken_next : (x : Bor (List ℕ)) → steps t (Some x) u → (length x.now ≡ frame_size) × (length xs < c)
      taken_next x p =
          let e = next_item xs t u x all y p in
          let f : List (List ℕ) = map (λ x. x.now) xs in (
            taken_size f x.now e.0 e.1,
            omega (arith, ap length e.1, taken_most, length-append f (x.now ∷ e.0), length-map xs (λ x. x.now)),
          )

      pub taken_all : (d : ℕ) → c ≡ d → up_to lo ≡ [] → (k : ℕ) → k ≡ length xs → steps t None u
          → (k ≡ min (length (above h (chain log d))) n) × (map (λ x. x.now) xs ≡ take k (above h (chain log d)))
      taken_all d f z k q p =
          let e : take n (above h (chain log c)) ≡ map (λ x. x.now) xs = sym (taken_is lo c n l z) ∙ all_items xs t u all y p in
          let m : k ≡ min n (length (above h (chain log c))) =
          q ∙ sym (length-map xs (λ x. x.now)) ∙ ap length (sym e) ∙ length-take n (above h (chain log c)) in
          rw (← f)
          (omega (arith, m), sym e ∙ sym (take_min n (above h (chain log c))) ∙ ap (λ (j : ℕ). take j (above h (chain log c))) (sym m))

-- the frames xs at the front of o
abbrev pub Front : (o : List ℕ) (xs : List (List ℕ)) (out : List ℕ) → Type 0
Front o xs out = (length (flatten xs) ≡ frame_size * length xs) × (out ≡ flatten xs ++ drop (frame_size * length xs) o)

pub front_none : (o : List ℕ) → Front o [] o
unfolding flatten
front_none o = (refl, refl)

front_next : (o : List ℕ) (xs : List (List ℕ)) (out x : List ℕ) → Front o xs out → length x ≡ frame_size
    → Front o (xs ++ (x ∷ [])) (store out (length xs + 1) x)
unfolding store flatten
front_next o xs out x c l =
    let k : ℕ = length xs in
    let f : List ℕ = flatten xs in
    let n : length (xs ++ (x ∷ [])) ≡ k + 1 = length-append xs (x ∷ []) in
    let w : flatten (xs ++ (x ∷ [])) ≡ f ++ x = flatten_append xs (x ∷ []) ∙ ap (λ (m : List ℕ). f ++ m) (append-nil x) in
    let y : frame_size * (k + 1 - 1) ≡ length f = omega (arith, c.0) in
    let z : frame_size * (k + 1) ≡ length f + frame_size = omega (arith, c.0) in
    let u : take (frame_size * (k + 1 - 1)) out ≡ f = rw (y, c.1) (take_at f (drop (frame_size * k) o) (length f) refl) in
    let p : frame_size * k + frame_size ≡ length f + frame_size = omega (arith, c.0) in
    let v : drop (frame_size * (k + 1)) out ≡ drop (frame_size * (k + 1)) o =
    rw (z, c.1)
    (drop-append-add f (drop (frame_size * k) o) frame_size ∙ (drop-drop frame_size (frame_size * k) o ∙ ap (λ (n : ℕ). drop n o) p)) in
    (rw (w, n, length-append, l) (omega (arith, c.0)), rw (u, v, w, n) (sym (append_assoc f x (drop (frame_size * (k + 1)) o))))

module _ (o : List ℕ) (xs : List (Bor (List ℕ))) (k : ℕ) (e : k ≡ length xs) (out : List ℕ) (c : Front o (map (λ x. x.now) xs) out) where
  long : k ≡ length (map (λ x. x.now) xs)
  long = e ∙ sym (length-map xs (λ x. x.now))

  pub front_more : (x : Bor (List ℕ)) (m : ℕ) (y : List ℕ) → length x.now ≡ frame_size → y ≡ store out m x.now → m ≡ k + 1
      → Front o (map (λ x. x.now) (xs ++ (x ∷ []))) y
  front_more x m y l f d =
      let s : store out (k + 1) x.now ≡ store out (length (map (λ x. x.now) xs) + 1) x.now = ap (λ (n : ℕ). store out (n + 1) x.now) long in
      rw (map-append (λ x. x.now) xs (x ∷ []), f, d, s) (front_next o (map (λ x. x.now) xs) out x.now c l)

  pub front_all : (ys : List (List ℕ)) → map (λ x. x.now) xs ≡ ys → out ≡ flatten ys ++ drop (frame_size * k) o
  front_all ys f = rw (← f, long) c.1
