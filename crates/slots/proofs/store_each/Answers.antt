-- `slots::store_each` meets its contract. By the next frame stored, in a log of the same size.
use Rattle.std.proofs.Common.{◌∙◌, arith}
use Rattle.slots.proofs.Slots.{each_more, next_slotted, each_end}
use Rattle.slots.proofs.store_each.Goals as goal

pub store_frame-requires : goal.store_frame-requires
store_frame-requires c =
    let k = c.in-Some.ensures.steps in
    let v = c.loop-x.invariant in
    let h = k.1.1 ∙ v.size in
    let s = next_slotted _ _ _ k.1.0 h _ v.slotted in
    rw c.loop-x.auto.log (s.0, s.1, h)

pub loop-x-preserved : goal.loop-x-preserved
loop-x-preserved c =
    let k = c.in-Some.ensures.steps in
    let v = c.loop-x.invariant in
    let h = k.1.1 ∙ v.size in
    record {
      size = k.0 ∙ v.size;
      stored = each_more _ _ _ k.1.0 h _ _ _ c.store_frame.ensures v.stored;
      slotted = (next_slotted _ _ _ k.1.0 h _ v.slotted).2;
    }

pub returns : goal.returns
returns c =
    let v = c.loop-x.invariant in
    each_end _ _ _ (omega (arith, c.in-None.ensures.steps.1.0, v.size)) v.stored
