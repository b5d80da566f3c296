-- The mask of the cards seen in some seats.
use Rattle.std.specs.Prelude.{ℕ, ◌+◌, ◌%◌, ◌^◌, List, Bool, cond, eqb, ltb}
use Rattle.std.specs.List.{fold}
use Rattle.apollo.specs.Masks.{set_bit}

-- with one card more, of those that have a bit
unfoldable pub with_replica : (m card : ℕ) → ℕ
with_replica m card = cond (ltb card 16) (set_bit card m) m

-- with those in the seats
abbrev pub replicas_seen : (m : ℕ) (seats : List ℕ) → ℕ
replicas_seen = fold with_replica

-- all bits below n are set
unfoldable pub all_seen : (n m : ℕ) → Bool
all_seen n m = eqb (m % 2 ^ n + 1) (2 ^ n)
