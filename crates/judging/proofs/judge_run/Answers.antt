-- `judging::judge_run` meets its contract.
use Rattle.std.proofs.Common.{rules, ◌∙◌}
use Rattle.sha256.specs.Fips.{sha256}
use Rattle.apollo.specs.BlockRun.{judged_next}
use Rattle.judging.proofs.Walk.{run_by}
use Rattle.judging.proofs.judge_run.Goals as goal

pub returns : goal.returns
returns c = c.judge_by.ensures (judged_next sha256 c.args.s) (λ p x r e. search rules) ∙ run_by c.args.s 0 _ _
