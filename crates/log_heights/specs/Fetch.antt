-- The frames that fetch copies.
use Rattle.std.specs.Prelude.{List, Bool, ◌&&◌, cond, ℕ, zero, suc, ◌+◌, ltb}
use Rattle.apollo.specs.Frame.{height}
use Rattle.apollo.specs.Log.{slot, filled}

-- slot x is filled, with a height above h
unfoldable pub is_tall : (x : List ℕ) (h : ℕ) → Bool
is_tall x h = filled x && ltb h (height x)

-- the round before the first of the m slots above lo that is so, lo + m if none is
unfoldable pub last_low : (log : List ℕ) (h lo m : ℕ) → ℕ
last_low log h lo zero = lo
last_low log h lo (suc m) = cond (is_tall (slot log (lo + 1)) h) lo (last_low log h (lo + 1) m)
