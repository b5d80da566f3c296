-- `frame_writing::put_block` meets its contract. By a block's pieces.
use Rattle.frame_writing.proofs.Make.{written_block}
use Rattle.frame_writing.proofs.put_block.Goals as goal

pub returns : goal.returns
returns c =
    written_block _ _ _ c.args.parent.now c.args.entry.now _ c.args.out.now _ _ _ _ _ c.requires.1 c.requires.2 c.block_start-start.ensures c.put.ensures c.put-2.ensures c.put-3.ensures c.put_zeros.ensures c.seal.ensures
