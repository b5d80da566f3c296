-- `branch::judge_branch` meets its contract. Whole frames fit the log.
use Rattle.std.proofs.Common.{sym}
use Rattle.apollo.proofs.Frames.{whole_fits}
use Rattle.branch.proofs.judge_branch.Goals as goal

pub judge_whole-requires : goal.judge_whole-requires
judge_whole-requires c = whole_fits _ _ (sym c.if-not-is_whole.ensures)
