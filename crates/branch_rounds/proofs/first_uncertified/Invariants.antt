-- `branch_rounds::first_uncertified`: what is left of each walk gives its answer.
use Rattle.std.proofs.Common.{◌≡◌, ◌-◌, ◌≤◌}
use Rattle.apollo.specs.Size.{frame_size}
use Rattle.apollo.specs.Frame.{frames_of}
use Rattle.apollo.specs.Masks as Masks
use Rattle.apollo.specs.Branch as Branch
use Rattle.branch_rounds.proofs.first_uncertified.Given as goal

abbrev pub invariant-loop-x : goal.invariant-loop-x
invariant-loop-x l = record {
  size : l.x-iterator.size ≡ frame_size;
  answer :
      Branch.first_uncertified l.s l.masks l.lo (frames_of l.x-iterator.rest.now)
      ≡ Branch.first_uncertified l.s l.masks l.a (frames_of l.frames);
}

abbrev pub invariant-loop-place : goal.invariant-loop-place
invariant-loop-place l = record {
  some : 1 ≤ l.place;
  answer : Masks.gap l.s l.masks (l.place - 1) (l.to - l.place) ≡ Masks.gap l.s l.masks l.lo (l.to - l.lo - 1);
}
