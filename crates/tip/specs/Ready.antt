-- What a new tip rests on.
use Rattle.std.specs.Prelude.{◌≡◌, List, ℕ, ◌+◌, ◌*◌, ◌≤◌, ◌<◌, length}
use Rattle.apollo.specs.Size.{entry_most, frame_size}
use Rattle.apollo.specs.declared.Replica.{Replica}

-- a record in range, the log with it, room for a frame, and an entry that fits into one
pub record Ready (r : Replica) (log entry out : List ℕ) : Type 0 where
  pub f_most : r.f ≤ 7
  pub last_most : r.last_round.0 ≤ 4096
  pub size : length log ≡ frame_size * r.last_round.0
  pub round_most : r.round.0 ≤ r.last_round.0 + 1
  pub tip_below : r.tip_round.0 < r.round.0
  pub tip_height : r.tip_height.0 ≤ r.tip_round.0
  pub out_room : frame_size ≤ length out
  pub entry_room : length entry ≤ entry_most
