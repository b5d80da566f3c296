-- The answers of read.
use Rattle.std.specs.Prelude.{ℕ, ◌+◌, ◌-◌, ◌*◌, List, [], Result, Ok, Err}
use Rattle.std.specs.Borrow.{Bor}
use Rattle.apollo.specs.Size.{frame_size}
use Rattle.std.specs.declared.ops.Range.{Range}
use Rattle.apollo.specs.declared.Part.{Part}
use Rattle.apollo.specs.declared.refusal.Refusal.{Refusal}
use Rattle.apollo.specs.Refused.{number}
use Rattle.apollo.specs.Frame.{entry_length}
use Rattle.apollo.specs.Log.{slot}

-- an empty part with the number of a refusal
abbrev pub no_part : (number : ℕ) → Part
no_part number = record { number = number; start = 0; length = 0 }

-- what the code's result tells
abbrev pub told : Result (Range ℕ) Refusal → Part
told (Ok p) = record { number = 0; start = p.start; length = p.end - p.start }
told (Err e) = no_part (number e)

-- the bytes that the code's result shows, "empty" when refused
abbrev pub shown : Result (Bor (List ℕ)) Refusal → List ℕ
shown (Ok x) = x.now
shown (Err e) = []

-- the entry in slot r
abbrev pub entry_part : (log : List ℕ) (r : ℕ) → Range ℕ
entry_part log r =
    record { start = frame_size * (r - 1) + 44; end = frame_size * (r - 1) + 44 + entry_length (slot log r) }
