-- Laws of what is put into a line. Assumes nothing.
use Rattle.std.proofs.Common.{◌≡◌, sym, ap, List, ℕ, ◌+◌, ◌≤◌, ◌<◌, min, add-one, length, get_or, drop, drop-cons}
use Rattle.std.proofs.Math.Seq.{paste, drop-length}
use Rattle.std.proofs.lemmas.Bool.{le-leb, lt-leb}
use Rattle.text.specs.Row.{Line, written, put, put_number, put_from}

pub put_fits : (xs s : List ℕ) (at : ℕ) → at + length s ≤ length xs
    → written (paste xs at s (length s)) (at + length s) ≡ put (written xs at) s
unfolding put
put_fits xs s at h = rw (le-leb (at + length s) (length xs) h)

pub put_not : (xs s : List ℕ) (at : ℕ) → length xs < at + length s
    → written xs (min at (length xs)) ≡ put (written xs at) s
unfolding put
put_not xs s at h = rw (lt-leb (at + length s) (length xs) h)

-- the number at i is put
pub from_next : (l : Line) (i : ℕ) (ns : List ℕ) → i < length ns
    → put_from l i (drop i ns) ≡ put_from (put_number l i (get_or ns i 0)) (i + 1) (drop (i + 1) ns)
unfolding put_from
from_next l i ns h =
    rw (drop-cons ns i 0 h) (ap (λ k. put_from (put_number l i (get_or ns i 0)) (i + 1) (drop k ns)) (sym (add-one i)))

-- all are put
pub from_end : (l : Line) (i : ℕ) (ns : List ℕ) → i ≡ length ns → put_from l i (drop i ns) ≡ l
unfolding put_from
from_end l i ns e = rw (e, drop-length ns)
