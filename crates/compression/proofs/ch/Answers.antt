-- `compression::ch` meets its contract. Assumes nothing.
use Rattle.std.specs.Int.{w32}
use Rattle.compression.proofs.ChMaj.{ch_short}
use Rattle.compression.proofs.ch.Goals as goal

pub returns : goal.returns
returns c = ch_short w32 _ _ _ c.ranges.x.fits c.ranges.y.fits c.ranges.z.fits
