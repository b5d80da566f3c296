-- `refusals::of_blames` meets its contract. By 2 to 5, and the set's verdict behind them.
use Rattle.std.proofs.Common.{◌≡◌, ℕ, refl, sym, ◌∙◌}
use Rattle.std.proofs.lemmas.Result.{err_from_is_err_and}
use Rattle.apollo.proofs.Numbers.{number_some, refused_number, taken_none}
use Rattle.refusals.proofs.Number.{guard_of_lem, set_guarded, set_judged}
use Rattle.refusals.proofs.Passed.{passed}
use Rattle.refusals.proofs.of_blames.Goals as goal

pub returns-in_err-guard : goal.returns-in_err-guard
returns-in_err-guard c =
    let a = c.args in
    let p = err_from_is_err_and c.from_residual.result c.from_residual.ensures.1 in
    rw (p.1, p.2)
    (set_guarded a.r a.log.now a.masks.now a.entry a.out _
    (guard_of_lem _ _ _ _ _ c.valid_record-is_valid.ensures (refused_number _ _ c.guard.ensures _ c.in_err-guard.was)) a.most a.frames.now
    (number_some c.in_err-guard.field-0.0))

pub judge_set-requires : goal.judge_set-requires
judge_set-requires c =
    let a = c.args in
    let g = guard_of_lem _ _ _ _ _ c.valid_record-is_valid.ensures c.guard.ensures in
    let p = passed a.r a.log.now a.masks.now a.entry a.out (sym g ∙ taken_none _ _ refl _ c.in_ok-guard.was) in
    (p.valid.setup.f_most, c.requires)

pub returns : goal.returns
returns c =
    let a = c.args in
    set_judged a.r a.log.now a.masks.now a.entry a.out _
    (guard_of_lem _ _ _ _ _ c.valid_record-is_valid.ensures c.guard.ensures) a.most a.frames.now _
    (taken_none _ _ refl _ c.in_ok-guard.was) c.judge_set.ensures
