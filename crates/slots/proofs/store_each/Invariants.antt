-- Storing the frames that are left makes the log asked for.
use Rattle.std.proofs.Common.{◌≡◌, length}
use Rattle.apollo.specs.Size.{frame_size}
use Rattle.apollo.specs.Frame.{frames_of}
use Rattle.apollo.specs.Branch.{store_all}
use Rattle.slots.specs.Slots.{Slotted}
use Rattle.slots.proofs.store_each.Given as goal

abbrev pub invariant-loop-x : goal.invariant-loop-x
invariant-loop-x l =
    record {
      size : l.x-iterator.size ≡ frame_size;
      stored : store_all l.log (frames_of l.x-iterator.rest.now) ≡ store_all l.fn.log (frames_of l.frames);
      slotted : Slotted (length l.fn.log) (frames_of l.x-iterator.rest.now);
    }
