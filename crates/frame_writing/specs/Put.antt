-- What is left in a lent buffer where bytes are written into it.
use Rattle.std.specs.Prelude.{◌≡◌, ℕ, ◌+◌, List, ◌++◌, length, take, drop}

-- out' is out with xs written from `start` on
pub record Written (out : List ℕ) (start : ℕ) (xs out' : List ℕ) : Type 0 where
  pub bytes : out' ≡ take start out ++ (xs ++ drop (start + length xs) out)
  pub size : length out' ≡ length out
