-- `blame_set::is_one_set` meets its contract. By one frame joined, and the frames that are left.
use Rattle.std.proofs.Common.{◌∙◌, refl, arith}
use Rattle.blame_set.proofs.Each.{bits_next, set_stop, set_more, set_end}
use Rattle.blame_set.proofs.is_one_set.Goals as goal

pub loop-x-init : goal.loop-x-init
loop-x-init c =
    rw (c.into_iter-x-iterator.ensures.into_iter_gives, c.chunks_exact-x-items.ensures.rest) record { size = c.chunks_exact-x-items.ensures.size; left = refl; bits = c.requires }

pub returns-then-not-joins : goal.returns-then-not-joins
returns-then-not-joins c =
    let k = c.in-Some.ensures.steps in
    let v = c.loop-x.invariant in
    set_stop _ _ _ _ v.left _ _ k.1.0 (k.1.1 ∙ v.size) _ c.joins.ensures c.if-not-joins.true

pub joined-before-requires : goal.joined-before-requires
joined-before-requires c =
    let k = c.in-Some.ensures.steps in
    let v = c.loop-x.invariant in
    (bits_next _ _ _ k.1.0 (k.1.1 ∙ v.size) v.bits).0

pub loop-x-preserved : goal.loop-x-preserved
loop-x-preserved c =
    let k = c.in-Some.ensures.steps in
    let v = c.loop-x.invariant in
    record {
      size = k.0 ∙ v.size;
      left = set_more _ _ _ _ v.left _ _ k.1.0 (k.1.1 ∙ v.size) _ c.joins.ensures _ c.if-not-joins.false c.joined-before.ensures;
      bits = (bits_next _ _ _ k.1.0 (k.1.1 ∙ v.size) v.bits).1;
    }

pub returns : goal.returns
returns c =
    let k = c.in-None.ensures.steps in
    let v = c.loop-x.invariant in
    set_end _ _ _ _ v.left (omega (arith, k.1.0, v.size))
