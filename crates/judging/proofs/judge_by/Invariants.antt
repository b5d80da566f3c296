-- `judging::judge_by`: judging the frames that are left, behind the one before them, gives the answer, and their places are u32.
use Rattle.std.proofs.Common.{◌≡◌, ◌+◌, length}
use Rattle.apollo.specs.Frame.{frames_of}
use Rattle.judging.specs.Walk.{parent_of, judged_by, Tells}
use Rattle.judging.proofs.judge_by.Given as goal

abbrev pub invariant-loop-i : goal.invariant-loop-i
invariant-loop-i g l = record {
  place : l.i-iterator.count + length l.i-iterator.iter.frames.now ≡ length (frames_of l.frames);
  answer : (number : _) → Tells (goal.F-post g) l.judge number
      → judged_by number l.i-iterator.count (parent_of l.p) l.i-iterator.iter.frames.now
      ≡ judged_by number 0 (parent_of l.parent) (frames_of l.frames);
}
