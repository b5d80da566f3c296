-- A row of numbers in a line of text.
use Rattle.std.specs.Prelude.{cond, List, [], ◌∷◌, ◌++◌, ℕ, zero, suc, ◌+◌, ◌/◌, ◌%◌, min, leb, ltb, length, take}
use Rattle.std.proofs.Math.Seq.{paste}

-- a line, and the place up to which it is written
pub record Line : Type 0 where
  pub bytes : List ℕ
  pub place : ℕ

abbrev pub written : List ℕ → ℕ → Line
written xs k = record { bytes = xs; place = k }

-- s put at the place, if it fits
unfoldable pub put : Line → List ℕ → Line
put l s =
    cond (leb (l.place + length s) (length l.bytes))
    (written (paste l.bytes l.place s (length s)) (l.place + length s))
    (written l.bytes (min l.place (length l.bytes)))

-- n in decimal, with no zero in front: at most k digits
unfoldable pub digits_to : (k n : ℕ) → List ℕ
digits_to zero n = []
digits_to (suc k) n = cond (ltb n 10) ((48 + n) ∷ []) (digits_to k (n / 10) ++ ((48 + n % 10) ∷ []))

-- the digits of a number of 64 bits
unfoldable pub decimal : ℕ → List ℕ
decimal n = digits_to 20 n

-- number i of a row, with a space before it unless it is the first
unfoldable pub put_number : Line → (i n : ℕ) → Line
put_number l i n = put (put l (take (min i 1) (32 ∷ []))) (decimal n)

-- the numbers of a row from number i on
unfoldable pub put_from : Line → ℕ → List ℕ → Line
put_from l i [] = l
put_from l i (n ∷ ns) = put_from (put_number l i n) (i + 1) ns

-- the numbers, and then s
unfoldable pub put_row : Line → List ℕ → List ℕ → Line
put_row l ns s = put (put_from l 0 ns) s
