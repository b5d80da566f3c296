-- `compression::held_round` meets its contract. One `held_step`. Assumes nothing.
use Rattle.std.proofs.Common.{refl}
use Rattle.compression.specs.Fips.{K}
use Rattle.compression.proofs.Rows.{held_step}
use Rattle.compression.proofs.held_round.Goals as goal

pub returns : goal.returns
unfolding K
returns g c = held_step c.args.w.now c.args.l c.args.t _ refl c.requires.0 c.round.ensures
