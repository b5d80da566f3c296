-- `call_tick::tick` meets its contract. By what a tick answers behind its refusals.
use Rattle.std.proofs.Common.{arith}
use Rattle.apollo.proofs.Numbers.{number_some, refused_number}
use Rattle.refusals.proofs.Number.{guard_of_lem}
use Rattle.call_tick.proofs.Call.{tick_refused, tick_down, tick_passed, tick_asks, tick_out, frames_few}
use Rattle.call_tick.proofs.tick.Goals as goal

pub returns-in-Err : goal.returns-in-Err
returns-in-Err c =
    let a = c.args in
    tick_refused a.replica a.log.now a.masks.now a.entry.now a.out.now _
    (guard_of_lem _ _ _ _ _ c.valid_record-is_valid.ensures (refused_number _ _ c.guard.ensures _ c.in-Err.is)) _ (number_some c.in-Err.e)
    (rw c.into.ensures at c.refused.ensures)

pub returns-then-replica-ne1 : goal.returns-then-replica-ne1
returns-then-replica-ne1 c =
    let a = c.args in
    tick_down a.replica a.log.now a.masks.now a.entry.now a.out.now
    c.valid_record-is_valid.ensures c.guard.ensures c.in_default.is _ c.if-replica-ne1.true
    c.count_down.ensures

pub put_blame-requires : goal.put_blame-requires
put_blame-requires c =
    omega (arith, (tick_passed _ _ _ _ _ c.valid_record-is_valid.ensures c.guard.ensures c.in_default.is).out_room)

pub slice_bounds-hear-count : goal.slice_bounds-hear-count
slice_bounds-hear-count c =
    omega (arith, (tick_passed _ _ _ _ _ c.valid_record-is_valid.ensures c.guard.ensures c.in_default.is).out_room, c.put_blame.auto.out)

pub slice_bounds-hear-start : goal.slice_bounds-hear-start
slice_bounds-hear-start c =
    omega (arith, (tick_passed _ _ _ _ _ c.valid_record-is_valid.ensures c.guard.ensures c.in_default.is).out_room, c.put_blame.auto.out)

pub hear-a-requires : goal.hear-a-requires
hear-a-requires c =
    let a = c.args in
    tick_asks a.replica a.log.now a.masks.now a.entry.now a.out.now
    c.valid_record-is_valid.ensures c.guard.ensures c.in_default.is _ c.put_blame.ensures _
    c.with_timer-q.ensures

pub overflow_add-a : goal.overflow_add-a
overflow_add-a c = omega (arith, frames_few _ _ _ _ _ _ _ _ c.hear-a.ensures)

pub returns : goal.returns
returns c =
    let a = c.args in
    tick_out a.replica a.log.now a.masks.now a.entry.now a.out.now
    c.valid_record-is_valid.ensures c.guard.ensures c.in_default.is _ c.put_blame.ensures _ _ _ _ _
    c.if-replica-ne1.false c.with_timer-q.ensures c.hear-a.ensures
