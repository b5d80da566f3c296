-- `slots::clear_above` meets its contract. By the part above the round, zeroed in place.
use Rattle.std.proofs.Common.{arith}
use Rattle.slots.proofs.Slots.{cleared, nothing_above}
use Rattle.slots.proofs.clear_above.Goals as goal

pub returns-then-a-log : goal.returns-then-a-log
returns-then-a-log c = cleared c.args.log.now c.clear.new.out c.args.r (omega arith) c.clear.ensures

pub returns-else-a-log : goal.returns-else-a-log
returns-else-a-log c = nothing_above c.args.log.now c.args.r (omega arith)
