-- `slots::take_branch` meets its contract. By what stands above the round zeroed, then the frames stored.
use Rattle.apollo.specs.Branch.{grown}
use Rattle.slots.proofs.take_branch.Goals as goal

pub returns : goal.returns
unfolding grown
returns c = rw (c.store_each.ensures, c.clear_above.ensures)
