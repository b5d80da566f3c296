-- What the answer of the code means.
use Rattle.std.proofs.Math.Option as Maybe
use Rattle.std.specs.Prelude.{ℕ, Option, None, Some}

-- the round that a frame attaches to
abbrev pub attach_of : Option ℕ → Maybe.Option ℕ
attach_of (Some r) = Maybe.some r
attach_of None = Maybe.none
