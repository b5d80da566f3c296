-- What the code answers where a definition gives a round, 0 if there is none.
use Rattle.std.specs.Prelude.{ℕ, zero, suc, Option, Some, None}

unfoldable pub found : ℕ → Option ℕ
found zero = None
found (suc r) = Some (suc r)
