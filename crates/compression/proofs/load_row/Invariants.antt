-- The loop's invariant of `compression::load_row`: word t of the lanes below l is there.
use Rattle.std.proofs.Common.{◌≡◌, ℕ, ◌*◌, ◌<◌, length, get_or}
use Rattle.compression.specs.Fips.{word_at}
use Rattle.compression.specs.Lanes.{bytes_at}
use Rattle.compression.proofs.load_row.Given as goal

abbrev pub invariant-loop-l : goal.invariant-loop-l
invariant-loop-l g l = (length l.row ≡ g.row.L) × ((m : ℕ) → m < l.l → get_or l.row m 0 ≡ word_at (bytes_at l.b m) (4 * l.t))
