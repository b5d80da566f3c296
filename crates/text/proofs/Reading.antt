-- What a step of the reader takes of the bytes still to come. Assumes nothing.
use Rattle.std.proofs.Common.{◌≡◌, refl, ap, ap₂, ◌∙◌, sym, ℕ, ◌+◌, ◌<◌, ◌≤◌, List, ◌∷◌, ◌++◌, length, get_or, take, drop, Option, None, Some, append_assoc, inl, inr, arith, add-zero}
use Rattle.std.specs.Prelude.{slice_get}
use Rattle.std.proofs.lemmas.Bool.{lt-ltb, le-ltb, cases_lt}
use Rattle.std.proofs.lemmas.List.{get_or-take, length-take, drop_all, drop_more}
use Rattle.std.proofs.lemmas.Option.{slice_get-get_or, slice_get_past}
use Rattle.std.specs.Option.{option_to_list}
use Rattle.std.specs.Io.KnownBytes.{Consumes}
use Rattle.text.specs.declared.stdin.Piece.{Piece}
use Rattle.text.specs.Reading.{taken, behind, fresh, unread, to_come, Next}

-- what is left from a place on is the byte there and what is left behind it
from_place : (xs : List ℕ) (at end : ℕ) → at < end
    → drop at (take end xs) ≡ option_to_list (slice_get xs at) ++ drop (at + length (option_to_list (slice_get xs at))) (take end xs)
from_place xs at end h =
    elim (cases_lt at (length xs)) [
      | inl g ↦
          let more : drop at (take end xs) ≡ get_or (take end xs) at 0 ∷ drop (at + 1) (take end xs) =
          drop_more (take end xs) at 0 (omega (arith, length-take end xs)) in
          rw (slice_get-get_or xs at 0 g) (more ∙ ap (λ b. b ∷ drop (at + 1) (take end xs)) (get_or-take end xs at 0 h))
      | inr g ↦ rw (slice_get_past xs at g, add-zero at) refl
    ]

-- what is left of the piece is the byte that comes and what is left then
taken_unread : (p : Piece) → unread p ≡ option_to_list (taken p) ++ unread (behind p)
unfolding taken unread
taken_unread p =
    elim (cases_lt p.at p.end) [
      | inl h ↦ rw (lt-ltb p.at p.end h) (from_place p.bytes p.at p.end h)
      | inr h ↦ rw (le-ltb p.at p.end h, add-zero p.at) refl
    ]

-- a byte from the piece
pub taken_consumes : (p : Piece) (o : Option (List ℕ)) → Consumes (to_come p o) (to_come (behind p) o) (option_to_list (taken p))
taken_consumes p None = tt
taken_consumes p (Some a) = ap (λ u. u ++ a) (taken_unread p) ∙ append_assoc (option_to_list (taken p)) (unread (behind p)) a

-- a byte from a piece of n bytes that were read, where none was left before
pub read_consumes : (p : Piece) (ys : List ℕ) (n : ℕ) (o q : Option (List ℕ)) → p.end ≤ p.at → Consumes o q (take n ys)
    → Consumes (to_come p o) (to_come (behind (fresh ys n)) q) (option_to_list (taken (fresh ys n)))
unfolding unread
read_consumes p ys n None q h f = tt
read_consumes p ys n (Some a) None h f = f
read_consumes p ys n (Some a) (Some b) h f =
    let m : Piece = fresh ys n in
    rw (drop_all p.at (take p.end p.bytes) (omega (arith, length-take p.end p.bytes)))
    (f ∙ ap (λ u. u ++ b) (taken_unread m) ∙ append_assoc (option_to_list (taken m)) (unread (behind m)) b)

-- a piece that is taken from its front on
pub at_front : (m : Piece) → m.at ≡ 0 → m ≡ fresh m.bytes m.end
at_front m e = ap (λ a. record { bytes = m.bytes; at = a; end = m.end }) e

-- the byte comes from the piece
pub next_left : (p q : Piece) (o : Option ℕ) → p.at < p.end → o ≡ taken p → q ≡ behind p → Next p q o
next_left p q o h e f =
    record {
      kept = λ _. ap (λ (x : Piece). x.bytes) f;
      byte = rw (lt-ltb p.at p.end h) e;
      rest = rw (lt-ltb p.at p.end h) f;
    }

-- the byte comes from n bytes that were read
pub next_read : (p q : Piece) (ys : List ℕ) (n : ℕ) (o : Option ℕ) → p.end ≤ p.at → o ≡ taken (fresh ys n)
    → q ≡ behind (fresh ys n) → Next p q o
next_read p q ys n o h e f =
    let bytes : ys ≡ q.bytes = sym (ap (λ (x : Piece). x.bytes) f) in
    let end : n ≡ q.end = sym (ap (λ (x : Piece). x.end) f) in
    record {
      kept = λ g. absurd (omega (arith, h, g));
      byte = rw (le-ltb p.at p.end h) (e ∙ ap₂ (λ a b. taken (fresh a b)) bytes end);
      rest = rw (le-ltb p.at p.end h) (f ∙ ap₂ (λ a b. behind (fresh a b)) bytes end);
    }
