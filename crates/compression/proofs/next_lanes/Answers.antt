-- `compression::next_lanes` meets its contract. Lane by lane, sixteen rounds; the others' words and variables stay. Assumes nothing.
use Rattle.std.proofs.Common.{arith}
use Rattle.compression.proofs.Rows.{upto_step}
use Rattle.compression.proofs.next_lanes.Goals as goal

pub loop-l-preserved : goal.loop-l-preserved
loop-l-preserved g c h b o =
    let l = c.loop-l.l in
    let k = c.next_rounds-next.ensures.keeps in
    let p = c.put.ensures in
    upto_step l (omega arith)
    (λ q. rw p.here (c.next_rounds-next.ensures.turns (h l) (b l) (rw c.lane.ensures q)))
    (λ m n q. rw (p.same m n, k.same m n) q)
    (λ m n q. rw (p.same m n, k.same m n) q)
    (c.loop-l.invariant h b o)
