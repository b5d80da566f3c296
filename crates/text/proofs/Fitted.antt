-- Laws of what is written of a line. Assumes nothing.
use Rattle.std.proofs.Common.{◌≡◌, refl, sym, ap, ◌∙◌, inl, inr, Bool, true, false, cond, List, [], ◌∷◌, ◌++◌, ℕ, ◌+◌, ◌≤◌, ◌<◌, min, add-one, length, get_or, take, drop, drop-cons, append-nil, arith}
use Rattle.std.specs.Prelude.{leb}
use Rattle.std.proofs.lemmas.Bool.{le-leb, lt-leb, cases_lt}
use Rattle.std.proofs.lemmas.List.{length-take, length-append, take_all, take_min, take-append-le}
use Rattle.std.proofs.lemmas.List.Edits.{take-paste, length-paste}
use Rattle.std.proofs.Math.Seq.{take-length, drop-length}
use Rattle.text.specs.Row.{Line, written, decimal, put as put_at, put_number as number_at, put_from as from_at, put_row as row_at}
use Rattle.text.specs.Fitted.{put, put_number, put_from, put_row}

either : {A : Type 0} (b : Bool) (x y : A) → x ≡ y → cond b x y ≡ y
either true x y e = e
either false x y e = refl

-- nothing is put
pub put_nothing : (m : ℕ) (l : List ℕ) → put m l [] ≡ l
unfolding put
put_nothing m l = either (leb (length l + 0) m) (l ++ []) l (append-nil l)

-- the first number of a row
pub number_first : (m : ℕ) (l : List ℕ) (i n : ℕ) → i ≤ 0 → put_number m l i n ≡ put m l (decimal n)
unfolding put_number
number_first m l i n h =
    let e : i ≡ 0 = omega (arith, h) in
    rw e (ap (λ k. put m k (decimal n)) (put_nothing m l))

-- a number behind another
pub number_behind : (m : ℕ) (l : List ℕ) (i n : ℕ) → 0 < i → put_number m l i n ≡ put m (put m l (32 ∷ [])) (decimal n)
unfolding put_number
number_behind m l i n h =
    let e : min i 1 ≡ 1 = omega (arith, h) in
    rw e refl

-- the number at i is put
pub from_next : (m : ℕ) (l : List ℕ) (i : ℕ) (ns : List ℕ) → i < length ns
    → put_from m l i (drop i ns) ≡ put_from m (put_number m l i (get_or ns i 0)) (i + 1) (drop (i + 1) ns)
unfolding put_from
from_next m l i ns h =
    rw (drop-cons ns i 0 h) (ap (λ k. put_from m (put_number m l i (get_or ns i 0)) (i + 1) (drop k ns)) (sym (add-one i)))

-- all are put
pub from_end : (m : ℕ) (l : List ℕ) (i : ℕ) (ns : List ℕ) → i ≡ length ns → put_from m l i (drop i ns) ≡ l
unfolding put_from
from_end m l i ns e = rw (e, drop-length ns) refl

-- what does not fit behind a place is left out
put_full : (xs s : List ℕ) (at : ℕ) → length xs < at + length s → put (length xs) (take at xs) s ≡ take at xs
unfolding put
put_full xs [] at h = put_nothing (length xs) (take at xs)
put_full xs (x ∷ s) at h =
    rw (length-take at xs, lt-leb (min at (length xs) + length (x ∷ s)) (length xs) (omega (arith, h))) refl

put_fits : (xs s : List ℕ) (at : ℕ) → at + length s ≤ length xs → put (length xs) (take at xs) s ≡ take at xs ++ s
unfolding put
put_fits xs s at h = rw (length-take at xs, le-leb (min at (length xs) + length s) (length xs) (omega (arith, h))) refl

-- a line of m bytes, of which t is written
pub record Shows (m : ℕ) (l : Line) (t : List ℕ) : Type 0 where
  pub room : length l.bytes ≡ m
  pub text : take l.place l.bytes ≡ t

put_shows : (xs s : List ℕ) (at : ℕ) → Shows (length xs) (put_at (written xs at) s) (put (length xs) (take at xs) s)
unfolding put_at
put_shows xs s at =
    elim (cases_lt (length xs) (at + length s)) [
      | inl h ↦ rw (lt-leb (at + length s) (length xs) h) record { room = refl; text = take_min at xs ∙ sym (put_full xs s at h) }
      | inr h ↦
          let room = length-paste xs at s (length s) h (omega arith) in
          let text = take-paste xs at s (length s) (omega (arith, h)) (omega arith) ∙ ap (λ u. take at xs ++ u) (take-length s) in
          rw (le-leb (at + length s) (length xs) h) record { room = room; text = text ∙ sym (put_fits xs s at h) }
    ]

pub shows_put : (m : ℕ) (l : Line) (t s : List ℕ) → Shows m l t → Shows m (put_at l s) (put m t s)
shows_put m l t s e = rw (sym e.room, sym e.text) (put_shows l.bytes s l.place)

shows_number : (m : ℕ) (l : Line) (t : List ℕ) (i n : ℕ) → Shows m l t → Shows m (number_at l i n) (put_number m t i n)
unfolding number_at put_number
shows_number m l t i n e = shows_put m _ _ (decimal n) (shows_put m l t (take (min i 1) (32 ∷ [])) e)

shows_from : (m : ℕ) (l : Line) (t : List ℕ) (i : ℕ) (ns : List ℕ) → Shows m l t → Shows m (from_at l i ns) (put_from m t i ns)
unfolding from_at put_from
shows_from m l t i [] e = e
shows_from m l t i (n ∷ ns) e = shows_from m (number_at l i n) (put_number m t i n) (i + 1) ns (shows_number m l t i n e)

pub shows_row : (m : ℕ) (l : Line) (t ns s : List ℕ) → Shows m l t → Shows m (row_at l ns s) (put_row m t ns s)
unfolding row_at put_row
shows_row m l t ns s e = shows_put m _ _ s (shows_from m l t 0 ns e)

-- of what is put byte by byte, a line keeps the first m bytes
pub put_kept : (m : ℕ) (l : List ℕ) (b : ℕ) → put m (take m l) (b ∷ []) ≡ take m (l ++ (b ∷ []))
unfolding put
put_kept m l b =
    elim (cases_lt (length l) m) [
      | inl h ↦
          rw (take_all m l (omega (arith, h)), le-leb (length l + 1) m (omega (arith, h)))
          (sym (take_all m (l ++ (b ∷ [])) (omega (arith, h, length-append l (b ∷ [])))))
      | inr h ↦
          rw (length-take m l, lt-leb (min m (length l) + 1) m (omega (arith, h))) (sym (take-append-le m l (b ∷ []) h))
    ]
