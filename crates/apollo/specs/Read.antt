-- Document 01, "Read".
use Rattle.std.specs.Prelude.{ℕ, zero, suc, ◌+◌, ◌-◌, ◌*◌, List, Bool, ◌&&◌, not, cond, eqb, leb}
use Rattle.std.specs.Borrow.{Bor}
use Rattle.apollo.specs.Size.{entry_most, frame_size}
use Rattle.apollo.specs.declared.Replica.{Replica}
use Rattle.apollo.specs.declared.Part.{Part}
use Rattle.apollo.specs.Bytes.{part}
use Rattle.apollo.specs.Frame.{entry_length, height}
use Rattle.apollo.specs.Log.{slot, filled}
use Rattle.apollo.specs.Replica.{valid_replica}
use Rattle.apollo.specs.Refusal.{bad_replica, absent}

-- the answer, and the bytes of the log that it shows
pub record ReadOutcome : Type 0 where
  pub answer : Part
  pub bytes : List ℕ

-- a part of the log with a number
abbrev pub part_of : (log : List ℕ) (number start length : ℕ) → ReadOutcome
part_of log number start length =
    record { answer = record { number = number; start = start; length = length }; bytes = part log start length }

-- where the bytes of a lent list x lie from `start` on: the block of memory that it lies in, and the offset there
abbrev pub place_in : Bor (List ℕ) → (start : ℕ) → ℕ × ℕ
place_in x start = (x.ref_ptr.0, start + x.ref_ptr.1)

-- slot x is filled, with height h and an entry length of at most 400
unfoldable pub readable : (x : List ℕ) (h : ℕ) → Bool
readable x h = filled x && eqb (height x) h && leb (entry_length x) entry_most

-- the lowest of the k rounds above lo with such a slot, 0 if none
unfoldable pub lowest : (log : List ℕ) (h lo k : ℕ) → ℕ
lowest log h lo zero = 0
lowest log h lo (suc k) = cond (readable (slot log (lo + 1)) h) (lo + 1) (lowest log h (lo + 1) k)

-- read at height h: 2, 15, and taken
unfoldable pub read_call : Replica → (log : List ℕ) (h : ℕ) → ReadOutcome
read_call r log h =
    let q : ℕ = lowest log h 0 r.committed_round.0 in
    cond (not (valid_replica r log)) (part_of log bad_replica 0 0)
    (cond (eqb q 0) (part_of log absent 0 0) (part_of log 0 (frame_size * (q - 1) + 44) (entry_length (slot log q))))
