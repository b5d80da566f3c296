-- No slot passed over is filled, and each was read.
use Rattle.std.proofs.Common.{◌≡◌, ◌-◌}
use Rattle.apollo.specs.Log as Log
use Rattle.slots.proofs.highest.Given as goal

abbrev pub invariant-loop-passed : goal.invariant-loop-passed
invariant-loop-passed l =
    record {
      read : l.slots_read ≡ l.passed;
      none_above : Log.highest l.log (l.limit - l.passed) ≡ Log.highest l.log l.limit;
    }
