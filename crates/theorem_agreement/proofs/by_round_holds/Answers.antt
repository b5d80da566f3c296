-- `theorem_agreement::by_round_holds` meets its contract. By the law, as a term: a search `using` it fails.
use Rattle.theorem_agreement.proofs.Agreement.{by_round}
use Rattle.theorem_agreement.proofs.by_round_holds.Goals as goal

pub returns : goal.returns
returns c = by_round
