-- `branch_rounds::keeps` meets its contract. By a law for each way that a frame's test goes, and for the end.
use Rattle.std.proofs.Common.{◌∙◌, arith}
use Rattle.branch_rounds.proofs.Kept.{keeps_stop, keeps_next, keeps_end}
use Rattle.branch_rounds.proofs.keeps.Goals as goal

pub returns-then-not-keeps_frame : goal.returns-then-not-keeps_frame
returns-then-not-keeps_frame c =
    let k = c.in-Some.ensures.steps in
    let v = c.loop-x.invariant in
    keeps_stop _ _ _ _ _ v.answer _ _ k.1.0 (k.1.1 ∙ v.size) c.if-not-keeps_frame.ensures

pub loop-x-preserved : goal.loop-x-preserved
loop-x-preserved c =
    let k = c.in-Some.ensures.steps in
    let v = c.loop-x.invariant in
    rw c.round-lo.ensures
    record {
      size = k.0 ∙ v.size;
      answer = keeps_next _ _ _ _ _ v.answer _ _ k.1.0 (k.1.1 ∙ v.size) c.if-not-keeps_frame.ensures;
    }

pub returns : goal.returns
returns c =
    let v = c.loop-x.invariant in
    c.is_blank.ensures ∙ keeps_end _ _ _ _ _ v.answer (omega (arith, c.in-None.ensures.steps.1.0, v.size))
