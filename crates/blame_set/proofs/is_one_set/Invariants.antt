-- `blame_set::is_one_set` meets its contract. The loop's invariant: the frames that are left join the signers so far as the answer has
-- it.
use Rattle.std.proofs.Common.{◌≡◌}
use Rattle.apollo.specs.Size.{frame_size}
use Rattle.apollo.specs.Frame.{frames_of}
use Rattle.apollo.specs.Blame.{one_set}
use Rattle.blame_set.specs.Set.{HaveBits}
use Rattle.blame_set.proofs.is_one_set.Given as goal

abbrev pub invariant-loop-x : goal.invariant-loop-x
invariant-loop-x l = record {
  size : l.x-iterator.size ≡ frame_size;
  left : one_set l.r l.before (frames_of l.x-iterator.rest.now) ≡ one_set l.r 0 (frames_of l.frames);
  bits : HaveBits (frames_of l.x-iterator.rest.now);
}
