-- `compression::hash` meets its contract. Block by block. Assumes nothing.
use Rattle.std.proofs.Common.{◌∙◌, List, [], length, get_or, ◌/◌, ap, arith}
use Rattle.compression.specs.Fips.{hash}
use Rattle.compression.proofs.Blocks.{chunk_at, hash_step}
use Rattle.compression.proofs.hash.Goals as goal

pub loop-b-init : goal.loop-b-init
unfolding hash
loop-b-init c = c.new-v.ensures 0 (omega arith)

pub loop-b-preserved : goal.loop-b-preserved
loop-b-preserved c =
    hash_step _ c.args.p.now _ _ _ c.loop-b.b-index c.loop-b.invariant
    (ap (λ (bs : List _). get_or bs c.loop-b.b-index []) c.as_chunks.ensures.front
    ∙ chunk_at c.args.p.now (length c.args.p.now / 64) c.loop-b.b-index (omega arith))
    (c.compress.ensures.at 0 (omega arith))
