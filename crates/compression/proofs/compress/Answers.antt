-- `compression::compress` meets its contract. In each lane, what the loop leaves is the end of the block. Assumes nothing.
use Rattle.std.proofs.Common.{arith}
use Rattle.compression.specs.Lanes.{bytes_at}
use Rattle.compression.proofs.Schedule.{compress_end}
use Rattle.compression.proofs.compress.Goals as goal

pub loop-n-init : goal.loop-n-init
loop-n-init g c = record { at = λ m q. (c.each_lane.ensures m q).1 (bytes_at c.args.b.now m) (c.load_rows.ensures.at m q) }

pub returns : goal.returns
returns g c =
    record {
      at = λ m q.
          compress_end _ _ (omega (arith, c.loop-n.auto.n-end (omega arith))) (omega arith) (c.loop-n.invariant.at m q)
          (c.each_lane-2.ensures m q).1;
    }
