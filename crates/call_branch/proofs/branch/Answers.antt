-- `call_branch::branch` meets its contract. By what a branch answers behind its refusals.
use Rattle.std.proofs.Common.{◌∙◌, refl, sym, ap}
use Rattle.apollo.proofs.Numbers.{number_some}
use Rattle.branch.specs.Judge.{judged_of}
use Rattle.call_branch.proofs.Call.{branch_refused, adopt_asks, adopt_ready, branch_taken}
use Rattle.call_branch.proofs.branch.Goals as goal

pub returns-in-Err : goal.returns-in-Err
returns-in-Err c =
    let a = c.args in
    branch_refused a.replica a.log.now a.masks.now a.entry.now a.out.now a.frames.now _ (sym (ap judged_of c.in-Err.is) ∙ c.of_branch.ensures)
    _ (number_some c.in-Err.e.refusal) (rw c.into.ensures at c.refused.ensures)

pub adopt-q-requires : goal.adopt-q-requires
adopt-q-requires c =
    let a = c.args in
    adopt_asks a.replica a.log.now a.masks.now a.entry.now a.out.now a.frames.now _ (sym (ap judged_of c.in-Ok.is) ∙ c.of_branch.ensures) refl

pub enter_round-requires : goal.enter_round-requires
enter_round-requires c =
    let a = c.args in
    adopt_ready a.replica a.log.now a.masks.now a.entry.now a.out.now a.frames.now _ (sym (ap judged_of c.in-Ok.is) ∙ c.of_branch.ensures) refl
    _ _ c.adopt-q.ensures c.adopt-q.auto.log

pub returns-in-Ok : goal.returns-in-Ok
returns-in-Ok c =
    let a = c.args in
    branch_taken a.replica a.log.now a.masks.now a.entry.now a.out.now a.frames.now _ (sym (ap judged_of c.in-Ok.is) ∙ c.of_branch.ensures) refl
    _ _ c.adopt-q.ensures _ (c.enter_round.ensures _)
