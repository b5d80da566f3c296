-- The status that a program ends with.
use Rattle.std.specs.Prelude.{ℕ, ⊤, Result, Ok, Err}
use Rattle.text.specs.declared.stdout.Stop.{Stop}
use Rattle.text.specs.declared.stdout.Stop.TheVariants.{Output, OutOfMemory}

-- only a lack of memory is a failure
abbrev pub status : Result ⊤ Stop → ℕ
status (Ok _) = 0
status (Err (Output _)) = 0
status (Err OutOfMemory) = 1
