-- Slots read in place, and the search downward for the highest filled with what it reads. Assumes nothing.
use mathlib.Core.Path.{◌≡◌, refl}
use mathlib.Core.Bool.{true, false}
use mathlib.Core.List.{List}
use Prim.Native.Nat.{ℕ, zero, suc, ◌+◌, ◌-◌, ◌*◌, ◌≤◌, ◌<◌}
use native.Mathlib.Omega.{arith}
use lib.Dec.{eqb-suc-zero}
use Rattle.apollo.specs.Size.{frame_size}
use Rattle.apollo.specs.Bytes.{part, zeros}
use Rattle.apollo.specs.Log.{genesis, slot, filled, highest, slots_read}

-- round 0 has the genesis
pub slot_genesis : (log : List ℕ) (r : ℕ) → r ≡ 0 → zeros frame_size ≡ slot log r
unfolding slot genesis
slot_genesis log r e = rw e

-- from round 1 on a slot is a part of the log
pub slot_part : (log : List ℕ) (r : ℕ) → 0 < r → part log (frame_size * (r - 1)) frame_size ≡ slot log r
unfolding slot
slot_part log zero h = absurd (omega arith)
slot_part log (suc k) h =
    let e : suc k - 1 ≡ k = omega arith in
    rw e

-- highest, from slot r downwards
pub highest_here : (log : List ℕ) (r : ℕ) → 0 < r → true ≡ filled (slot log r) → r ≡ highest log r
unfolding highest
highest_here log zero h e = refl
highest_here log (suc r) h e = rw (← e)

pub highest_below : (log : List ℕ) (r k : ℕ) → r ≡ suc k → false ≡ filled (slot log r) → highest log k ≡ highest log r
unfolding highest
highest_below log r k h e = let f : false ≡ filled (slot log (suc k)) = rw h at e in rw (h, ← f)

pub highest_none : (log : List ℕ) (r : ℕ) → r ≤ 0 → 0 ≡ highest log r
unfolding highest
highest_none log zero h = refl
highest_none log (suc r) h = absurd (omega arith)

-- the slots read on the way down to slot r, which is the one found, or to none
pub read_found : (log : List ℕ) (limit r n : ℕ) → 0 < r → n + r ≡ limit + 1 → r ≡ highest log limit → n ≡ slots_read log limit
unfolding slots_read
read_found log limit zero n h e x = absurd (omega arith)
read_found log limit (suc r) n h e x =
    let d : n ≡ limit + 1 - suc r = omega arith in
    rw (← x, eqb-suc-zero r) d

pub read_none : (log : List ℕ) (limit : ℕ) → 0 ≡ highest log limit → limit ≡ slots_read log limit
unfolding slots_read
read_none log limit x = rw (← x)
