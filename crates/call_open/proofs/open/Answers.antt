-- `call_open::open` meets its contract. By what opening answers behind its refusals.
use Rattle.std.proofs.Common.{refl}
use Rattle.apollo.proofs.Numbers.{number_some, refused_number, taken_none}
use Rattle.call_open.proofs.Call.{open_refused, open_ready, open_taken}
use Rattle.call_open.proofs.open.Goals as goal

pub returns-in-Err : goal.returns-in-Err
returns-in-Err c =
    let a = c.args in
    open_refused a.id a.f a.timeout.0 a.last_round.0 a.rotation.now a.log.now a.masks.now a.entry.now a.out.now _ c.fresh-r.ensures _
    (refused_number _ _ c.of_open.ensures _ c.in-Err.is) _ _ (number_some c.in-Err.e) c.zero_replica.ensures (rw c.into.ensures at c.refused.ensures)

pub enter_round-requires : goal.enter_round-requires
enter_round-requires c =
    let a = c.args in
    open_ready a.id a.f a.timeout.0 a.last_round.0 a.rotation.now a.log.now a.masks.now a.entry.now a.out.now _ c.fresh-r.ensures _
    c.of_open.ensures (taken_none _ _ refl _ c.in_default.is) _ c.clear.ensures

pub returns : goal.returns
returns c =
    let a = c.args in
    open_taken a.id a.f a.timeout.0 a.last_round.0 a.rotation.now a.log.now a.masks.now a.entry.now a.out.now _ c.fresh-r.ensures _
    c.of_open.ensures (taken_none _ _ refl _ c.in_default.is) _ c.clear.ensures _ _ c.clear-2.ensures
    (c.enter_round.ensures _)
