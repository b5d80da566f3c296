-- `tip::put_own_block` meets its contract. By the digest of the tip.
use Rattle.std.proofs.Common.{ap, ◌∙◌, arith, length}
use Rattle.tip.proofs.Steps.{slot_digest, digest_size}
use Rattle.tip.proofs.put_own_block.Goals as goal

pub put_block-requires : goal.put_block-requires
put_block-requires c =
    let e = slot_digest c.args.log.now _ _ c.args.r.tip_round.0 c.slot.ensures c.part-parent.ensures in
    (omega arith, ap length e ∙ digest_size c.args.log.now c.args.r.tip_round.0 (omega arith), omega arith)

pub returns : goal.returns
returns c =
    rw (slot_digest c.args.log.now _ _ c.args.r.tip_round.0 c.slot.ensures c.part-parent.ensures) at c.put_block.ensures
