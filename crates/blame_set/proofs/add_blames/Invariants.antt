-- `blame_set::add_blames` meets its contract. The loop's invariant: adding the frames that are left makes the masks asked for.
use Rattle.std.proofs.Common.{◌≡◌, length}
use Rattle.apollo.specs.Size.{frame_size}
use Rattle.apollo.specs.Frame.{frames_of}
use Rattle.apollo.specs.Blame.{add_blames}
use Rattle.blame_set.specs.Set.{HaveBits}
use Rattle.blame_set.proofs.add_blames.Given as goal

abbrev pub invariant-loop-x : goal.invariant-loop-x
invariant-loop-x l = record {
  size : l.x-iterator.size ≡ frame_size;
  masks : length l.masks ≡ length l.initial.masks;
  left : add_blames l.masks (frames_of l.x-iterator.rest.now) ≡ add_blames l.initial.masks (frames_of l.frames);
  bits : HaveBits (frames_of l.x-iterator.rest.now);
}
