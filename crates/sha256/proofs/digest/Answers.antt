-- `sha256::digest` meets its contract. The whole blocks of the message, then one padded block after the other. Assumes nothing.
use Rattle.std.proofs.Common.{arith, rules}
use Rattle.sha256.proofs.Padding.{length_padded}
use Rattle.sha256.proofs.Hash.{digest_whole, digest_step, digest_end}
use Rattle.sha256.proofs.digest.Goals as goal

pub loop-i-init : goal.loop-i-init
loop-i-init c = digest_whole c.args.s.now _ _ c.initial.ensures c.hash-h.ensures

pub padded_block-requires : goal.padded_block-requires
padded_block-requires c = omega (arith, length_padded c.args.s.now)

pub loop-i-preserved : goal.loop-i-preserved
loop-i-preserved c =
    digest_step _ _ _ _ c.loop-i.i (search rules) c.loop-i.invariant c.padded_block.ensures c.hash-h-in-loop-i.ensures

pub returns : goal.returns
returns c =
    digest_end _ _ _ c.loop-i.i c.blocks-i-end.result (search rules) (omega (arith, c.loop-i.auto.i-end (omega arith))) (omega arith) c.loop-i.invariant c.bytes_of.ensures
