-- `theorem_catch_up::catch_up_later_holds` meets its contract. By the law, as a term: a search `using` it fails.
use Rattle.theorem_catch_up.proofs.CatchUp.{catch_up_later}
use Rattle.theorem_catch_up.proofs.catch_up_later_holds.Goals as goal

pub returns : goal.returns
returns c = catch_up_later
