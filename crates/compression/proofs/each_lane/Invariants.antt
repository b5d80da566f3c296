-- The loop's invariant of `compression::each_lane`: the lanes below l are what the step made of them.
use Rattle.std.proofs.Common.{◌≡◌}
use Rattle.compression.specs.Lanes.{state_at}
use Rattle.compression.proofs.Rows.{Upto}
use Rattle.compression.proofs.each_lane.Given as goal

abbrev pub invariant-loop-l : goal.invariant-loop-l
invariant-loop-l g l =
    Upto g.row.L l.l (λ m. goal.F-post g l.step (state_at l.initial.v m) m (state_at l.v m)) (λ m. state_at l.v m ≡ state_at l.initial.v m)
