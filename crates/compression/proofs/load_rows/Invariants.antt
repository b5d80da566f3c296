-- The loop's invariant of `compression::load_rows`: the first t words of each lane are loaded.
use Rattle.compression.specs.Lanes.{bytes_at, Loaded}
use Rattle.compression.proofs.load_rows.Given as goal

abbrev pub invariant-loop-t : goal.invariant-loop-t
invariant-loop-t g l = Loaded g.row.L (bytes_at l.b) l.t l.w
