-- `frame_writing::put_blame` meets its contract. By a blame's pieces.
use Rattle.frame_writing.proofs.Make.{written_blame}
use Rattle.frame_writing.proofs.put_blame.Goals as goal

pub returns : goal.returns
returns c =
    written_blame _ _ _ _ _ _ _ c.blame_start-start.ensures c.put.ensures c.put_zeros.ensures c.seal.ensures
