-- `compression::each_lane` meets its contract. Lane by lane. Assumes nothing.
use Rattle.std.proofs.Common.{◌≡◌, ◌∙◌, arith}
use Rattle.compression.specs.Lanes.{state_at}
use Rattle.compression.proofs.Rows.{upto_put}
use Rattle.compression.proofs.each_lane.Goals as goal

pub loop-l-preserved : goal.loop-l-preserved
loop-l-preserved g c =
    upto_put (λ m s. goal.F-post g c.args.step (state_at c.args.v.now m) m s) (λ m s. s ≡ state_at c.args.v.now m) c.loop-l.l (omega arith)
    (λ q. rw (c.lane.ensures ∙ q) at c.step-made.ensures) c.put.ensures c.loop-l.invariant
