-- `refusals::of_branch` meets its contract. By 2 to 5, and the branch's judgement behind them.
use Rattle.std.proofs.Common.{refl}
use Rattle.std.proofs.lemmas.Result.{err_from_is_err_and}
use Rattle.apollo.proofs.Numbers.{number_some, refused_number, taken_none}
use Rattle.refusals.proofs.Number.{guard_of_lem, branch_guarded, branch_judged}
use Rattle.refusals.proofs.of_branch.Goals as goal

pub returns-in_err-guard : goal.returns-in_err-guard
returns-in_err-guard c =
    let a = c.args in
    let p = err_from_is_err_and c.from_residual.result c.from_residual.ensures.1 in
    rw (p.1, p.2)
    (branch_guarded a.r a.log.now a.masks.now a.entry a.out _
    (guard_of_lem _ _ _ _ _ c.valid_record.ensures (refused_number _ _ c.guard.ensures _ c.in_err-guard.was)) a.frames.now
    (number_some c.in_err-guard.field-0.0))

pub returns : goal.returns
returns c =
    let a = c.args in
    branch_judged a.r a.log.now a.masks.now a.entry a.out _
    (guard_of_lem _ _ _ _ _ c.valid_record.ensures c.guard.ensures) a.frames.now _ (taken_none _ _ refl _ c.in_ok-guard.was)
    c.judge_branch.ensures
