-- `tip::adopt` meets its contract. By the steps of a branch that is taken.
use Rattle.tip.proofs.Steps.{adoption}
use Rattle.tip.proofs.adopt.Goals as goal

pub tipped-requires : goal.tipped-requires
tipped-requires c = rw (c.round.ensures, c.last_frame-last.ensures) c.requires.1

pub returns : goal.returns
returns c =
    adoption c.args.r c.args.log.now _ _ _ _ _ _ _ c.take_branch.ensures c.last_frame-last.ensures c.round.ensures c.height.ensures
    c.tipped.ensures
