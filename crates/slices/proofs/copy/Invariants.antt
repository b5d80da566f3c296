-- `slices::copy`: the first i bytes are copied.
use Rattle.std.proofs.Common.{◌≡◌, ◌++◌, drop, take}
use Rattle.slices.proofs.copy.Given as goal

abbrev pub invariant-loop-i : goal.invariant-loop-i
invariant-loop-i l = l.out ≡ take l.i l.x ++ drop l.i l.initial.out
