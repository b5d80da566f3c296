-- `branch_rounds::keeps`: the frames that are left answer for all, on the round reached.
use Rattle.std.proofs.Common.{◌≡◌}
use Rattle.apollo.specs.Size.{frame_size}
use Rattle.apollo.specs.Frame.{frames_of}
use Rattle.branch_rounds.specs.Keeps.{keeps_all}
use Rattle.branch_rounds.proofs.keeps.Given as goal

abbrev pub invariant-loop-x : goal.invariant-loop-x
invariant-loop-x l = record {
  size : l.x-iterator.size ≡ frame_size;
  answer : keeps_all l.log l.lo (frames_of l.x-iterator.rest.now) l.committed ≡ keeps_all l.log l.a (frames_of l.frames) l.committed;
}
