-- `rounds::settle` meets its contract. By the test whether the blames certify R.
use Rattle.rounds.proofs.Steps.{settled_still, settled_next}
use Rattle.rounds.proofs.settle.Goals as goal

pub returns-then-not-certifies : goal.returns-then-not-certifies
returns-then-not-certifies c =
    settled_still c.args.r c.args.log.now c.args.masks.now c.args.entry.now c.args.out.now c.args.round _ c.certifies.ensures _
    c.if-not-certifies.true c.taken.ensures

pub returns : goal.returns
returns c =
    settled_next c.args.r c.args.log.now c.args.masks.now c.args.entry.now c.args.out.now c.args.round _ c.certifies.ensures _ _
    c.if-not-certifies.false c.with_round.ensures (c.enter_round.ensures _)
