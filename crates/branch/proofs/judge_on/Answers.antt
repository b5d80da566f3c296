-- `branch::judge_on` meets its contract. By a law for each way that 13 and 12 go.
use Rattle.std.proofs.Common.{◌∙◌, sym}
use Rattle.branch.proofs.Judge.{on_gap, on_undone, on_kept}
use Rattle.branch.proofs.judge_on.Goals as goal

pub returns-in-Some : goal.returns-in-Some
returns-in-Some c =
    let a = c.args in
    on_gap a.r a.log.now a.masks.now a.frames.now a.a _ c.into.ensures _ (sym c.in-Some.is ∙ c.first_uncertified.ensures)

pub returns-then-not-keeps : goal.returns-then-not-keeps
returns-then-not-keeps c =
    let a = c.args in
    rw c.into-then-not-keeps.ensures
    (on_undone a.r a.log.now a.masks.now a.frames.now a.a _ c.into.ensures (sym c.in_default.is ∙ c.first_uncertified.ensures) _ c.keeps.ensures c.if-not-keeps.true)

pub returns : goal.returns
returns c =
    let a = c.args in
    on_kept a.r a.log.now a.masks.now a.frames.now a.a _ c.into.ensures (sym c.in_default.is ∙ c.first_uncertified.ensures) _ c.keeps.ensures c.if-not-keeps.false
