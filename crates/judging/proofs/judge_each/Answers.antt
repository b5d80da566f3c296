-- `judging::judge_each` meets its contract: the frame before a frame doesn't count.
use Rattle.std.proofs.Common.{rules, ◌∙◌}
use Rattle.sha256.specs.Fips.{sha256}
use Rattle.apollo.specs.Judging.{fault}
use Rattle.frame_forms.specs.Forms.{form_of}
use Rattle.judging.proofs.Walk.{each_by}
use Rattle.judging.proofs.judge_each.Goals as goal

pub returns : goal.returns
returns c =
    c.judge_by.ensures (λ q. fault sha256 (form_of c.args.kind c.args.s)) (λ p x r e. search rules)
    ∙ each_by (form_of c.args.kind c.args.s) 0 _ _
