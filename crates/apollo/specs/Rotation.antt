-- Document 02, F-4: the rotation (seating), which is n card numbers in the order in which they lead.
use Rattle.std.specs.Prelude.{ℕ, zero, suc, ◌+◌, List, [], ◌∷◌, ◌++◌, Bool, true, ◌&&◌, cond, length, take, eqb}
use Rattle.apollo.specs.Bytes.{zeros}

-- how many seats a card has
unfoldable pub seats : (id : ℕ) (rotation : List ℕ) → ℕ
seats id [] = 0
seats id (x ∷ xs) = cond (eqb x id) 1 0 + seats id xs

-- each card below n has one seat: none is lacking, none is there twice
unfoldable pub each_once : (n : ℕ) (rotation : List ℕ) → Bool
each_once zero rotation = true
each_once (suc n) rotation = eqb (seats n rotation) 1 && each_once n rotation

-- n long, and each card below n once
unfoldable pub is_rotation : (n : ℕ) (rotation : List ℕ) → Bool
is_rotation n rotation = eqb (length rotation) n && each_once n rotation

-- the old turn: 0, 1, 2 and so on
unfoldable pub in_turn : (n : ℕ) → List ℕ
in_turn zero = []
in_turn (suc n) = in_turn n ++ (n ∷ [])

-- as the record holds it: 15 bytes, zero past its end; of a longer one, which 17 refuses, the first 15
unfoldable pub padded : (rotation : List ℕ) → List ℕ
padded rotation = take 15 (rotation ++ zeros 15)
