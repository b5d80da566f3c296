-- `blame_set::add_blames` meets its contract. By one frame added, and the frames that are left.
use Rattle.std.proofs.Common.{◌∙◌, refl, arith}
use Rattle.blame_set.proofs.Each.{bits_next, added_more, added_end}
use Rattle.blame_set.proofs.add_blames.Goals as goal

pub loop-x-init : goal.loop-x-init
loop-x-init c =
    rw (c.into_iter-x-iterator.ensures.into_iter_gives, c.chunks_exact-x-items.ensures.rest)
    record { size = c.chunks_exact-x-items.ensures.size; masks = refl; left = refl; bits = c.requires }

pub add_frame-requires : goal.add_frame-requires
add_frame-requires c =
    let k = c.in-Some.ensures.steps in
    let v = c.loop-x.invariant in
    (bits_next _ _ _ k.1.0 (k.1.1 ∙ v.size) v.bits).0

pub loop-x-preserved : goal.loop-x-preserved
loop-x-preserved c =
    let k = c.in-Some.ensures.steps in
    let v = c.loop-x.invariant in
    record {
      size = k.0 ∙ v.size;
      masks = omega arith;
      left = added_more _ _ _ v.left _ _ k.1.0 (k.1.1 ∙ v.size) _ c.add_frame.ensures;
      bits = (bits_next _ _ _ k.1.0 (k.1.1 ∙ v.size) v.bits).1;
    }

pub returns : goal.returns
returns c =
    let k = c.in-None.ensures.steps in
    let v = c.loop-x.invariant in
    added_end _ _ _ v.left (omega (arith, k.1.0, v.size))
