-- `theorem_catch_up::split_holds` meets its contract. By the law, as a term: a search `using` it fails.
use Rattle.theorem_catch_up.proofs.Split.{split}
use Rattle.theorem_catch_up.proofs.split_holds.Goals as goal

pub returns : goal.returns
returns c = split
