-- The number of the first refusal, 0 if there is none. `entry` and `out` are the lengths of the entry and of the out buffer.
use Rattle.std.specs.Prelude.{List, Bool, ◌&&◌, not, cond, ℕ, ◌+◌, eqb, ltb}
use Rattle.apollo.specs.Size.{entry_most, out_least}
use Rattle.apollo.specs.declared.Replica.{Replica}
use Rattle.apollo.specs.Setup.{setup_of}
use Rattle.apollo.specs.Replica.{valid_record, valid_own, valid_log, valid_masks}
use Rattle.setup_ranges.specs.Number.{lent_number}
use Rattle.apollo.specs.Refusal.{bad_setup, bad_replica, rounds_over, out_too_short, entry_too_long}

-- 4 and 5
unfoldable pub room_number : (entry out : ℕ) → ℕ
room_number entry out = cond (ltb out out_least) out_too_short (cond (ltb entry_most entry) entry_too_long 0)

-- 1, 17, 4 and 5 of open; the record has the rotation, padded, and `size` is its length
unfoldable pub open_number : Replica → (size : ℕ) (log masks : List ℕ) (entry out : ℕ) → ℕ
open_number r size log masks entry out =
    let setup : ℕ = lent_number (setup_of r) size in
    cond (not (valid_own r && valid_log r log && valid_masks r masks)) bad_setup (cond (not (eqb setup 0)) setup (room_number entry out))

-- 2 to 5 of branch, blame, blames and tick, where the record by itself passed or failed its test
unfoldable pub guard_number : (valid : Bool) → Replica → (log masks : List ℕ) (entry out : ℕ) → ℕ
guard_number valid r log masks entry out =
    cond (not (valid && valid_log r log && valid_masks r masks)) bad_replica
    (cond (eqb r.round.0 (r.last_round.0 + 1)) rounds_over (room_number entry out))

-- the same by the test of that record
abbrev pub guard_of : Replica → (log masks : List ℕ) (entry out : ℕ) → ℕ
guard_of r = guard_number (valid_record r) r
