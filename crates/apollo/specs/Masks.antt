-- Document 01, "A card": the blame masks, and certified (shown) rounds.
use Rattle.std.specs.Prelude.{ℕ, zero, suc, ◌+◌, ◌-◌, ◌*◌, ◌/◌, ◌%◌, List, Bool, cond, get_or, set, eqb, leb}
use Rattle.apollo.specs.declared.Setup.{Setup}
use Rattle.apollo.specs.Setup.{replicas}

-- bit i of a mask
unfoldable pub bit : (i m : ℕ) → Bool
bit zero m = eqb (m % 2) 1
bit (suc i) m = bit i (m / 2)

-- the mask with bit i set
unfoldable pub set_bit : (i m : ℕ) → ℕ
set_bit zero m = m / 2 * 2 + 1
set_bit (suc i) m = set_bit i (m / 2) * 2 + m % 2

-- how many of the numbers below n pass a test
unfoldable pub count : (n : ℕ) (p : ℕ → Bool) → ℕ
count zero p = 0
count (suc n) p = cond (p n) 1 0 + count n p

-- the mask of round r
abbrev pub mask : (masks : List ℕ) (r : ℕ) → ℕ
mask masks r = get_or masks (r - 1) 0

-- the masks with replica i's blame for round r
abbrev pub add_blame : (masks : List ℕ) (r i : ℕ) → List ℕ
add_blame masks r i = set masks (r - 1) (set_bit i (mask masks r))

-- round r is certified (shown)
unfoldable pub certified : Setup → (masks : List ℕ) (r : ℕ) → Bool
certified s masks r = leb (s.f + 1) (count (replicas s) (λ i. bit i (mask masks r)))

-- the first of the k rounds above lo that is not certified, 0 if none
unfoldable pub gap : Setup → (masks : List ℕ) (lo k : ℕ) → ℕ
gap s masks lo zero = 0
gap s masks lo (suc k) = cond (certified s masks (lo + 1)) (gap s masks (lo + 1) k) (lo + 1)
