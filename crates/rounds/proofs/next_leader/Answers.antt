-- `rounds::next_leader` meets its contract. By the test whether R = T + 1.
use Rattle.rounds.proofs.Steps.{no_leader, some_leader}
use Rattle.rounds.proofs.next_leader.Goals as goal

pub returns-then-r-round : goal.returns-then-r-round
returns-then-r-round c = no_leader c.args.r c.if-r-round.true

pub returns : goal.returns
returns c = some_leader c.args.r _ _ c.if-r-round.false c.into.ensures c.leader.ensures
