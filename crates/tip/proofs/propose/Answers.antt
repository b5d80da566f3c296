-- `tip::propose` meets its contract. By the steps of a proposal.
use Rattle.std.proofs.Common.{arith}
use lib.ListN.{length-take}
use Rattle.tip.proofs.Steps.{proposal}
use Rattle.tip.proofs.propose.Goals as goal

pub store-requires : goal.store-requires
store-requires c =
    (omega arith, omega (arith, c.requires.0.size), rw c.part.ensures (simp length-take (omega arith)))

pub returns : goal.returns
returns c =
    proposal c.args.r c.args.log.now c.args.entry.now c.args.out.now c.requires.0 _ _ _ _ c.put_own_block.ensures c.part.ensures
    c.store.ensures c.tipped.ensures
