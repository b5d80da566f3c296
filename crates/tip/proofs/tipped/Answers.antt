-- `tip::tipped` meets its contract. By the two steps that set the tip and R.
use Rattle.tip.proofs.Steps.{tipped_steps}
use Rattle.tip.proofs.tipped.Goals as goal

pub returns : goal.returns
returns c = tipped_steps _ _ _ _ _ c.with_tip.ensures c.with_round.ensures
