-- `refusals::guard` meets its contract. By the tests of the record and of its round.
use Rattle.refusals.proofs.Number.{guard_record, guard_over, guard_room}
use Rattle.refusals.proofs.guard.Goals as goal

pub returns-then-not-is_valid-valid_log : goal.returns-then-not-is_valid-valid_log
returns-then-not-is_valid-valid_log c =
    guard_record c.args.r c.args.log.now c.args.masks.now c.args.entry c.args.out _ _ _ c.valid_log.ensures c.valid_masks.ensures
    c.if-not-is_valid-valid_log.true

pub returns-then-round-end : goal.returns-then-round-end
returns-then-round-end c =
    guard_over c.args.r c.args.log.now c.args.masks.now c.args.entry c.args.out _ _ _ c.valid_log.ensures c.valid_masks.ensures
    c.if-not-is_valid-valid_log.false (rw (c.from-round.ensures, c.from-end.ensures) at c.if-round-end.true)

pub returns : goal.returns
returns c =
    guard_room c.args.r c.args.log.now c.args.masks.now c.args.entry c.args.out _ _ _ c.valid_log.ensures c.valid_masks.ensures _
    c.if-not-is_valid-valid_log.false (rw (c.from-round.ensures, c.from-end.ensures) at c.if-round-end.false) c.judge_room.ensures
