-- `frame_writing::seal` meets its contract. By the length of what is taken.
use Rattle.std.proofs.Common.{arith, length-take}
use Rattle.frame_writing.proofs.seal.Goals as goal

pub slice_bounds-digest-end-2 : goal.slice_bounds-digest-end-2
slice_bounds-digest-end-2 c = simp length-take (omega arith)
