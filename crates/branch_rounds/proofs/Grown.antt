-- The log that taking a branch makes: which of the committed slots it keeps, for an ordered branch. Assumes nothing.
use mathlib.Core.Path.{◌≡◌, refl, sym, ap, ap₂, ◌∙◌}
use mathlib.Core.Bool.{Bool, true, false, ◌&&◌, cond, and-true, and_assoc}
use mathlib.Core.List.{List, [], ◌∷◌, ◌++◌, append_assoc}
use Prim.Native.Nat.{ℕ, zero, suc, ◌+◌, ◌-◌, ◌*◌, ◌≤◌, ◌<◌, min}
use native.Mathlib.Nat.{sub-zero}
use native.Mathlib.Omega.{arith}
use lib.Dec.{eqb, leb, ltb}
use lib.ListN.{length, take, drop, length-take, length-append}
use lib.Seq.{length-take-le, take-append-le, take-take, take_at, drop_at, drop-drop, take-add}
use borrow.Author.Tests.{eq-eqb, ne_eqb, eqb-true, eqb-false, leb-true, leb-false, lt-ltb, le-ltb}
use Rattle.apollo.specs.Size.{frame_size}
use Rattle.apollo.specs.Bytes.{part, same, zeros, blank}
use Rattle.apollo.specs.Frame.{round}
use Rattle.apollo.specs.Log.{slot, store, clear_above}
use Rattle.apollo.specs.Branch.{store_all, grown}
use Rattle.apollo.proofs.Tests.{same_refl}
use Rattle.apollo.proofs.Slots.{length_store, length_clear}
use Rattle.slots.proofs.Search.{slot_part}
use Rattle.branch_links.specs.Ordered.{Ordered}
use Rattle.branch_rounds.specs.Keeps.{keeps_frame, keeps_all}
use Rattle.slices.proofs.Blank.{blank_none}

-- equality of lists: both ways round, and of two parts each
eqb_sym : (m n : ℕ) → eqb m n ≡ eqb n m
eqb_sym m n = by (eqb m n) refl
  where
    by : (b : Bool) → eqb m n ≡ b → b ≡ eqb n m
    by true e = sym (eq-eqb n m (sym (eqb-true m n e)))
    by false e = sym (ne_eqb n m (λ (p : n ≡ m). eqb-false m n e (sym p)))

same_sym : (a b : List ℕ) → same a b ≡ same b a
unfolding same
same_sym [] [] = refl
same_sym [] (y ∷ b) = refl
same_sym (x ∷ a) [] = refl
same_sym (x ∷ a) (y ∷ b) = rw (eqb_sym x y, same_sym a b)

same_append : (a b c d : List ℕ) → length a ≡ length b → same (a ++ c) (b ++ d) ≡ (same a b && same c d)
unfolding same
same_append [] [] c d e = refl
same_append [] (y ∷ b) c d e = absurd (omega arith)
same_append (x ∷ a) [] c d e = absurd (omega arith)
same_append (x ∷ a) (y ∷ b) c d e =
    rw (same_append a b c d (omega arith)) (sym (and_assoc (eqb x y) (same a b) (same c d)))

-- zeros
take_zeros : (k n : ℕ) → k ≤ n → take k (zeros n) ≡ zeros k
unfolding zeros
take_zeros zero n h = refl
take_zeros (suc k) zero h = absurd (omega arith)
take_zeros (suc k) (suc n) h = ap (λ (l : List ℕ). 0 ∷ l) (take_zeros k n (omega arith))

drop_zeros : (k n : ℕ) → drop k (zeros n) ≡ zeros (n - k)
unfolding zeros
drop_zeros zero n = rw sub-zero
drop_zeros (suc k) zero =
    let e : 0 - suc k ≡ 0 = omega arith in
    rw e
drop_zeros (suc k) (suc n) =
    let e : suc n - suc k ≡ n - k = omega arith in
    rw e (drop_zeros k n)

-- slots of a log with a frame stored
module _ (log : List ℕ) (r : ℕ) (x : List ℕ) (g : 1 ≤ r) (h : frame_size * r ≤ length log) (l : length x ≡ frame_size) where
  head_length : length (take (frame_size * (r - 1)) log) ≡ frame_size * (r - 1)
  head_length = simp length-take (omega arith)

  take_store : (k : ℕ) → k ≤ frame_size * (r - 1) → take k (store log r x) ≡ take k log
  unfolding store
  take_store k f =
      take-append-le k (take (frame_size * (r - 1)) log) (x ++ drop (frame_size * r) log) (omega (arith, head_length))
      ∙ take-take k (frame_size * (r - 1)) log f

  front_length : length (take (frame_size * (r - 1)) log ++ x) ≡ frame_size * r
  front_length = simp (length-append, length-take) (omega arith)

  take_stored : take (frame_size * r) (store log r x) ≡ take (frame_size * (r - 1)) log ++ x
  unfolding store
  take_stored =
      rw (← (append_assoc (take (frame_size * (r - 1)) log) x (drop (frame_size * r) log)))
      (take_at (take (frame_size * (r - 1)) log ++ x) (drop (frame_size * r) log) (frame_size * r) front_length)

  drop_store : drop (frame_size * r) (store log r x) ≡ drop (frame_size * r) log
  unfolding store
  drop_store =
      rw (← (append_assoc (take (frame_size * (r - 1)) log) x (drop (frame_size * r) log)))
      (drop_at (take (frame_size * (r - 1)) log ++ x) (drop (frame_size * r) log) (frame_size * r) front_length)

pub ordered_le : (t lo : ℕ) (xs : List (List ℕ)) → Ordered t lo xs → lo ≤ t
unfolding Ordered
ordered_le t lo [] o = o
ordered_le t lo (x ∷ xs) o =
    let r : round x ≤ t = ordered_le t (round x) xs o.2 in
    omega (arith, o.1)

clear_high : (log : List ℕ) (a : ℕ) → frame_size * a ≤ length log → drop (frame_size * a) (clear_above log a) ≡ zeros (length log - frame_size * a)
unfolding clear_above
clear_high log a h = drop_at (take (frame_size * a) log) (zeros (length log - frame_size * a)) (frame_size * a) (length-take-le (frame_size * a) log h)

clear_low : (log : List ℕ) (a k : ℕ) → frame_size * a ≤ length log → k ≤ frame_size * a → take k (clear_above log a) ≡ take k log
unfolding clear_above
clear_low log a k h f =
    take-append-le k (take (frame_size * a) log) (zeros (length log - frame_size * a)) (rw (length-take-le (frame_size * a) log h) f)
    ∙ take-take k (frame_size * a) log f

-- the slots up to round c, of a log that is zero above round lo and of another
module _ (t c : ℕ) (log : List ℕ) (l : length log ≡ frame_size * t) (q : c ≤ t) where
  -- they are the same up to round k
  Alike : (now : List ℕ) (k : ℕ) → Bool
  Alike now k = same (take (frame_size * k) now) (take (frame_size * k) log)

  split : (now : List ℕ) (lo k : ℕ) → length now ≡ frame_size * t → drop (frame_size * lo) now ≡ zeros (frame_size * t - frame_size * lo) → k ≤ t
      → Alike now k ≡ (Alike now (min lo k) && blank log (frame_size * lo) (frame_size * k))
  unfolding Alike
  split now lo k m z f = by (leb lo k) refl
    where
      by : (b : Bool) → leb lo k ≡ b → same (take (frame_size * k) now) (take (frame_size * k) log)
          ≡ (same (take (frame_size * min lo k) now) (take (frame_size * min lo k) log) && blank log (frame_size * lo) (frame_size * k))
      by true e =
          let g : lo ≤ k = leb-true lo k e in
          let i : min lo k ≡ lo = omega arith in
          let p : frame_size * k ≡ frame_size * lo + (frame_size * k - frame_size * lo) = omega arith in
          let u : take (frame_size * k) now ≡ take (frame_size * lo) now ++ zeros (frame_size * k - frame_size * lo) =
          ap (λ (n : ℕ). take n now) p
          ∙ (take-add (frame_size * lo) (frame_size * k - frame_size * lo) now
          ∙ ap (λ (w : List ℕ). take (frame_size * lo) now ++ w) (ap (take (frame_size * k - frame_size * lo)) z ∙ take_zeros (frame_size * k - frame_size * lo) (frame_size * t - frame_size * lo) (omega arith))) in
          let v : take (frame_size * k) log ≡ take (frame_size * lo) log ++ part log (frame_size * lo) (frame_size * k - frame_size * lo) =
          ap (λ (n : ℕ). take n log) p ∙ take-add (frame_size * lo) (frame_size * k - frame_size * lo) log in
          rw (i, u, v)
          (same_append (take (frame_size * lo) now) (take (frame_size * lo) log) (zeros (frame_size * k - frame_size * lo)) (part log (frame_size * lo) (frame_size * k - frame_size * lo))
          (simp length-take (omega arith))
          ∙ ap (λ (b : Bool). same (take (frame_size * lo) now) (take (frame_size * lo) log) && b)
          (same_sym (zeros (frame_size * k - frame_size * lo)) (part log (frame_size * lo) (frame_size * k - frame_size * lo))))
      by false e =
          let g : k < lo = leb-false lo k e in
          let i : min lo k ≡ k = omega arith in
          rw (i, ← (blank_none log (frame_size * lo) (frame_size * k) (omega arith))) (sym (and-true _))

  -- with frame x stored in slot r above lo, up to that slot
  stored_alike : (now : List ℕ) (lo r : ℕ) (x : List ℕ) → length now ≡ frame_size * t → drop (frame_size * lo) now ≡ zeros (frame_size * t - frame_size * lo)
      → length x ≡ frame_size → lo < r → r ≤ t
      → Alike (store now r x) r ≡ (Alike now lo && (blank log (frame_size * lo) (frame_size * (r - 1)) && same (slot log r) x))
  unfolding Alike
  stored_alike now lo r x m z n g f =
      let k : min lo (r - 1) ≡ lo = omega arith in
      let p : frame_size * r ≡ frame_size * (r - 1) + frame_size = omega arith in
      let u : take (frame_size * r) (store now r x) ≡ take (frame_size * (r - 1)) now ++ x = take_stored now r x (omega arith) (omega arith) n in
      let v : take (frame_size * r) log ≡ take (frame_size * (r - 1)) log ++ slot log r =
      ap (λ (i : ℕ). take i log) p ∙ (take-add (frame_size * (r - 1)) frame_size log
      ∙ ap (λ (w : List ℕ). take (frame_size * (r - 1)) log ++ w) (slot_part log r (omega arith))) in
      let a : Bool = same (take (frame_size * lo) now) (take (frame_size * lo) log) in
      let b : Bool = blank log (frame_size * lo) (frame_size * (r - 1)) in
      let w : same (take (frame_size * (r - 1)) now) (take (frame_size * (r - 1)) log) ≡ (a && b) =
      split now lo (r - 1) m z (omega arith) ∙ ap (λ (i : ℕ). same (take (frame_size * i) now) (take (frame_size * i) log) && b) k in
      let e : length (take (frame_size * (r - 1)) now) ≡ length (take (frame_size * (r - 1)) log) = simp length-take (omega arith) in
      ap₂ same u v
      ∙ (same_append (take (frame_size * (r - 1)) now) (take (frame_size * (r - 1)) log) x (slot log r) e
      ∙ (ap₂ ◌&&◌ w (same_sym x (slot log r)) ∙ and_assoc a b (same (slot log r) x)))

  -- with frame x stored above lo, up to its round and to c
  frame_alike : (now : List ℕ) (lo : ℕ) (x : List ℕ) → length now ≡ frame_size * t → drop (frame_size * lo) now ≡ zeros (frame_size * t - frame_size * lo)
      → length x ≡ frame_size → lo < round x → round x ≤ t
      → Alike (store now (round x) x) (min (round x) c) ≡ (Alike now (min lo c) && keeps_frame log lo x c)
  unfolding Alike keeps_frame
  frame_alike now lo x m z n g f = by (leb (round x) c) refl
    where
      by : (b : Bool) → leb (round x) c ≡ b
          → same (take (frame_size * min (round x) c) (store now (round x) x)) (take (frame_size * min (round x) c) log)
          ≡ (same (take (frame_size * min lo c) now) (take (frame_size * min lo c) log) && cond (ltb c (round x)) (blank log (frame_size * lo) (frame_size * c))
          (ltb 0 (round x) && (blank log (frame_size * lo) (frame_size * (round x - 1)) && same (slot log (round x)) x)))
      by true e =
          let h : round x ≤ c = leb-true (round x) c e in
          let i : min (round x) c ≡ round x = omega arith in
          let j : min lo c ≡ lo = omega arith in
          rw (i, j, le-ltb c (round x) h, lt-ltb 0 (round x) (omega arith)) (stored_alike now lo (round x) x m z n g f)
      by false e =
          let h : c < round x = leb-false (round x) c e in
          let i : min (round x) c ≡ c = omega arith in
          let u : take (frame_size * c) (store now (round x) x) ≡ take (frame_size * c) now =
          take_store now (round x) x (omega arith) (omega arith) n (frame_size * c) (omega arith) in
          rw (i, lt-ltb c (round x) h, u) (split now lo c m z q)

  -- along an ordered branch
  all_alike : (now : List ℕ) (lo : ℕ) (xs : List (List ℕ)) → length now ≡ frame_size * t → drop (frame_size * lo) now ≡ zeros (frame_size * t - frame_size * lo)
      → Ordered t lo xs → Alike (store_all now xs) c ≡ (Alike now (min lo c) && keeps_all log lo xs c)
  unfolding Ordered store_all keeps_all
  all_alike now lo [] m z o = split now lo c m z q
  all_alike now lo (x ∷ xs) m z o =
      let r : round x ≤ t = ordered_le t (round x) xs o.2 in
      let g : 1 ≤ round x = omega (arith, o.1) in
      let h : frame_size * round x ≤ length now = omega arith in
      let y : frame_size * lo + (frame_size * round x - frame_size * lo) ≡ frame_size * round x = omega (arith, o.1) in
      let w : frame_size * t - frame_size * lo - (frame_size * round x - frame_size * lo) ≡ frame_size * t - frame_size * round x = omega (arith, o.1) in
      let d : drop (frame_size * round x) (store now (round x) x) ≡ zeros (frame_size * t - frame_size * round x) =
      drop_store now (round x) x g h o.0
      ∙ (ap (λ (n : ℕ). drop n now) (sym y)
      ∙ (sym (drop-drop (frame_size * round x - frame_size * lo) (frame_size * lo) now)
      ∙ (ap (drop (frame_size * round x - frame_size * lo)) z ∙ (drop_zeros (frame_size * round x - frame_size * lo) (frame_size * t - frame_size * lo) ∙ ap zeros w)))) in
      all_alike (store now (round x) x) (round x) xs (length_store now (round x) x g h o.0 ∙ m) d o.2
      ∙ (ap (λ (b : Bool). b && keeps_all log (round x) xs c) (frame_alike now lo x m z o.0 o.1 r)
      ∙ and_assoc (Alike now (min lo c)) (keeps_frame log lo x c) (keeps_all log (round x) xs c))

  -- the test without a copy is the definition's
  pub keeps_grown : (a : ℕ) (xs : List (List ℕ)) → Ordered t a xs
      → keeps_all log a xs c ≡ same (take (frame_size * c) (grown log a xs)) (take (frame_size * c) log)
  unfolding grown Alike
  keeps_grown a xs o =
      let h : a ≤ t = ordered_le t a xs o in
      let f : frame_size * a ≤ length log = omega arith in
      let z : drop (frame_size * a) (clear_above log a) ≡ zeros (frame_size * t - frame_size * a) =
      clear_high log a f ∙ ap (λ (n : ℕ). zeros (n - frame_size * a)) l in
      let k : take (frame_size * min a c) (clear_above log a) ≡ take (frame_size * min a c) log = clear_low log a (frame_size * min a c) f (omega arith) in
      let e : same (take (frame_size * min a c) (clear_above log a)) (take (frame_size * min a c) log) ≡ true =
      ap (λ (y : List ℕ). same y (take (frame_size * min a c) log)) k ∙ same_refl (take (frame_size * min a c) log) in
      sym
      (all_alike (clear_above log a) a xs (length_clear log a f ∙ l) z o
      ∙ ap (λ (b : Bool). b && keeps_all log a xs c) e)
