-- `theorem_catch_up::common_holds` meets its contract. By the law, as a term: a search `using` it fails.
use Rattle.theorem_catch_up.proofs.CatchUp.{common}
use Rattle.theorem_catch_up.proofs.common_holds.Goals as goal

pub returns : goal.returns
returns c = common
