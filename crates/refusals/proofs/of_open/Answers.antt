-- `refusals::of_open` meets its contract. By the other tests of 1, then the set-up's own refusal.
use Rattle.std.proofs.Common.{refl, ◌∙◌, sym}
use Rattle.std.proofs.lemmas.Result.{err_from_is_err_and}
use Rattle.apollo.proofs.Numbers.{number_some, refused_number, taken_none}
use Rattle.refusals.proofs.Number.{open_lent, open_setup, open_room}
use Rattle.refusals.proofs.of_open.Goals as goal

pub returns-then-not-valid_own-valid_log : goal.returns-then-not-valid_own-valid_log
returns-then-not-valid_own-valid_log c =
    let a = c.args in
    open_lent a.r a.log.now a.masks.now a.entry a.out a.length _ _ _ c.valid_own.ensures c.valid_log.ensures c.valid_masks.ensures
    c.if-not-valid_own-valid_log.true

pub returns-in_err-refusal : goal.returns-in_err-refusal
returns-in_err-refusal c =
    let a = c.args in
    let p = err_from_is_err_and c.from_residual.result c.from_residual.ensures.1 in
    rw (p.1, p.2)
    (open_setup a.r a.log.now a.masks.now a.entry a.out a.length _ _ _ c.valid_own.ensures c.valid_log.ensures c.valid_masks.ensures
    c.if-not-valid_own-valid_log.false _ _ c.into.ensures (refused_number _ _ c.refusal.ensures _ c.in_err-refusal.was)
    (number_some c.in_err-refusal.field-0.0))

pub returns : goal.returns
returns c =
    let a = c.args in
    open_room a.r a.log.now a.masks.now a.entry a.out a.length _ _ _ c.valid_own.ensures c.valid_log.ensures c.valid_masks.ensures
    c.if-not-valid_own-valid_log.false _ _ c.into.ensures c.refusal.ensures _ (taken_none _ _ refl _ c.in_ok-refusal.was)
    c.judge_room.ensures
