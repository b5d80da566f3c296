-- `call_blame::hand_in` meets its contract. By what blames answer behind their refusals.
use Rattle.std.proofs.Common.{refl, rules}
use Rattle.apollo.proofs.Numbers.{number_some, refused_verdict, taken_verdict}
use Rattle.call_blame.proofs.Call.{set_refused, set_has_bits, set_asks, set_taken}
use Rattle.call_blame.proofs.hand_in.Goals as goal

pub returns-in-Err : goal.returns-in-Err
returns-in-Err c =
    let a = c.args in
    set_refused a.most a.replica a.log.now a.masks.now a.entry.now a.out.now a.frames.now _
    (refused_verdict _ _ c.of_blames.ensures c.in-Err.e (search rules)) _ (number_some c.in-Err.e.refusal)
    (rw c.into.ensures at c.refused.ensures)

pub add_blames-requires : goal.add_blames-requires
add_blames-requires c =
    let a = c.args in
    set_has_bits a.most a.replica a.log.now a.masks.now a.entry.now a.out.now a.frames.now _
    (taken_verdict _ _ c.of_blames.ensures _ (search rules)) refl

pub settle-requires : goal.settle-requires
settle-requires c =
    let a = c.args in
    set_asks a.most a.replica a.log.now a.masks.now a.entry.now a.out.now a.frames.now _
    (taken_verdict _ _ c.of_blames.ensures _ (search rules)) refl

pub returns : goal.returns
returns c =
    let a = c.args in
    set_taken a.most a.replica a.log.now a.masks.now a.entry.now a.out.now a.frames.now _
    (taken_verdict _ _ c.of_blames.ensures _ (search rules)) refl _ _ _ _ c.add_blames.ensures c.part.ensures c.round-round.ensures
    c.settle.ensures
