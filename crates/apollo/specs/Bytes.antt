-- Document 01, "Frames": bytes, big-endian numbers, and tests on them.
use Rattle.std.specs.Prelude.{ℕ, ◌+◌, ◌-◌, ◌*◌, ◌/◌, ◌%◌, ◌^◌, List, [], ◌∷◌, Bool, true, false, ◌&&◌, take, drop, get_or, replicate, eqb, leb}

-- `size` bytes of xs, from `start` on
abbrev pub part : List ℕ → (start size : ℕ) → List ℕ
part xs start size = take size (drop start xs)

-- the number in two and in four bytes of xs, from `start` on
unfoldable pub number2 : List ℕ → (start : ℕ) → ℕ
number2 xs start = get_or xs start 0 * 2 ^ 8 + get_or xs (start + 1) 0

unfoldable pub number4 : List ℕ → (start : ℕ) → ℕ
number4 xs start =
    get_or xs start 0 * 2 ^ 24 + get_or xs (start + 1) 0 * 2 ^ 16 + get_or xs (start + 2) 0 * 2 ^ 8 + get_or xs (start + 3) 0

-- a number in two and in four bytes
abbrev pub bytes2 : ℕ → List ℕ
bytes2 n = n / 2 ^ 8 % 256 ∷ n % 256 ∷ []

abbrev pub bytes4 : ℕ → List ℕ
bytes4 n = n / 2 ^ 24 % 256 ∷ n / 2 ^ 16 % 256 ∷ n / 2 ^ 8 % 256 ∷ n % 256 ∷ []

-- n zero bytes
unfoldable pub zeros : ℕ → List ℕ
zeros n = replicate n 0

-- two lists are equal
unfoldable pub same : List ℕ → List ℕ → Bool
same [] [] = true
same [] (y ∷ ys) = false
same (x ∷ xs) [] = false
same (x ∷ xs) (y ∷ ys) = eqb x y && same xs ys

-- the bytes from `start` up to, not including, `end` are zero
abbrev pub blank : List ℕ → (start end : ℕ) → Bool
blank x start end = same (part x start (end - start)) (zeros (end - start))

-- lo ≤ n ≤ hi
abbrev pub within : (lo n hi : ℕ) → Bool
within lo n hi = leb lo n && leb n hi
