-- The loop's invariant of `compression::hash`: the hash value is that after the blocks so far.
use Rattle.std.proofs.Common.{◌≡◌}
use Rattle.compression.specs.Fips.{hash}
use Rattle.compression.specs.Lanes.{state_at}
use Rattle.compression.proofs.hash.Given as goal

abbrev pub invariant-loop-b : goal.invariant-loop-b
invariant-loop-b l = state_at l.v 0 ≡ hash l.fn.h l.p l.b-index
