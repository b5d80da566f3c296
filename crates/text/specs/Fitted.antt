-- A row of numbers put behind the bytes of a line of text of at most m bytes: what `Row` says of a line and a place in it, said of the bytes
-- before that place.
use Rattle.std.specs.Prelude.{cond, List, [], ◌∷◌, ◌++◌, ℕ, ◌+◌, min, leb, length, take}
use Rattle.text.specs.Row.{decimal}
use Rattle.text.specs.declared.stdout.Line.{Line}

-- what is written of a line
abbrev pub bytes_of : {m : ℕ} → Line m → List ℕ
bytes_of l = take l.end l.bytes

-- s put behind the bytes of a line, if it fits
unfoldable pub put : (m : ℕ) → List ℕ → List ℕ → List ℕ
put m l s = cond (leb (length l + length s) m) (l ++ s) l

-- number i of a row, with a space before it unless it is the first
unfoldable pub put_number : (m : ℕ) → List ℕ → (i n : ℕ) → List ℕ
put_number m l i n = put m (put m l (take (min i 1) (32 ∷ []))) (decimal n)

-- the numbers of a row from number i on
unfoldable pub put_from : (m : ℕ) → List ℕ → ℕ → List ℕ → List ℕ
put_from m l i [] = l
put_from m l i (n ∷ ns) = put_from m (put_number m l i n) (i + 1) ns

-- the numbers, and then s
unfoldable pub put_row : (m : ℕ) → List ℕ → List ℕ → List ℕ → List ℕ
put_row m l ns s = put m (put_from m l 0 ns) s
