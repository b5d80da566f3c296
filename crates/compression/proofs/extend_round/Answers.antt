-- `compression::extend_round` meets its contract. One `turned_step`. Assumes nothing.
use Rattle.std.proofs.Common.{◌+◌, ◌*◌, refl, arith}
use Rattle.compression.specs.Fips.{K}
use Rattle.compression.proofs.Schedule.{turned_step}
use Rattle.compression.proofs.extend_round.Goals as goal

pub returns-clause-turns : goal.returns-clause-turns
unfolding K
returns-clause-turns g c h b =
    let t = 16 * c.args.n in
    let i = c.args.i in
    turned_step (t + (i + 1)) _ refl (omega arith)
    (c.extend-x.ensures.turns b (t + i) (omega arith) (omega arith) (omega arith)) c.round.ensures
