-- The frames so far are at the front of `out`.
use Rattle.std.proofs.Common.{◌≡◌, length, ◌+◌, map}
use Rattle.std.specs.Iterator.Adapters.{take_count}
use Rattle.log_heights.proofs.Fetched.{Front}
use Rattle.log_heights.proofs.fetch_frames.Given as goal

abbrev pub invariant-loop-x : goal.invariant-loop-x
invariant-loop-x l =
    record {
      count : l.count ≡ length l.yielded;
      room : l.count + take_count l.x-iterator ≡ l.room;
      front : Front l.fn.out (map (λ x. x.now) l.yielded) l.out;
    }
