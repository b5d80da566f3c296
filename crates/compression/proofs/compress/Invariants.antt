-- The loop's invariant of `compression::compress`: the variables and the words of each lane are those of round 16 n.
use Rattle.std.proofs.Common.{◌*◌}
use Rattle.compression.specs.Lanes.{state_at, bytes_at, AllTurned}
use Rattle.compression.proofs.compress.Given as goal

abbrev pub invariant-loop-n : goal.invariant-loop-n
invariant-loop-n g l = AllTurned (state_at l.h) (bytes_at l.b) (16 * l.n) l.v l.w
