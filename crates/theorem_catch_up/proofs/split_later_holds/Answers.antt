-- `theorem_catch_up::split_later_holds` meets its contract. By the law, as a term: a search `using` it fails.
use Rattle.theorem_catch_up.proofs.Split.{split_later}
use Rattle.theorem_catch_up.proofs.split_later_holds.Goals as goal

pub returns : goal.returns
returns c = split_later
