-- Checks that are made ahead of their frames' turn, four at a time.
use Rattle.std.specs.Prelude.{◌≡◌, List, [], ◌∷◌, Bool, false, ◌&&◌, ℕ, ◌<◌, length, get_or, ltb}
use Rattle.std.specs.Borrow.{Bor}
use Rattle.sha256.specs.Fips.{sha256}
use Rattle.apollo.specs.Frame.{checked}

-- frame k of the frames xs is there, and its check is right
unfoldable pub checked_at : (xs : List (List ℕ)) (k : ℕ) → Bool
checked_at xs k = ltb k (length xs) && checked sha256 (get_or xs k [])

-- the same of the first four
unfoldable pub checks_of : (xs : List (List ℕ)) → List Bool
checks_of xs = checked_at xs 0 ∷ checked_at xs 1 ∷ checked_at xs 2 ∷ checked_at xs 3 ∷ []

-- the flags are the checks of the first frames, of those that are there
abbrev pub Known : (ahead : List Bool) (xs : List (List ℕ)) → Type 0
Known ahead xs = (k : ℕ) → k < length ahead → k < length xs → get_or ahead k false ≡ checked sha256 (get_or xs k [])

-- a frame and whether its check is right; the same as it is given
abbrev pub with_check : (x : List ℕ) → List ℕ × Bool
with_check x = (x, checked sha256 x)

abbrev pub given : Bor (List ℕ) × Bool → List ℕ × Bool
given p = (p.0.now, p.1)
