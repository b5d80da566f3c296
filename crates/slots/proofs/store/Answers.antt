-- `slots::store` meets its contract. By the slot's part, which takes the frame.
use Rattle.std.proofs.Common.{arith}
use Rattle.slots.proofs.Slots.{stored}
use Rattle.slots.proofs.store.Goals as goal

pub returns : goal.returns
returns c = stored c.args.log.now c.args.x.now c.args.r c.copy.new.out (omega arith) c.copy.ensures
