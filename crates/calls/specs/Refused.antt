-- The answer of a call that is refused.
use Rattle.std.specs.Prelude.{ℕ}
use Rattle.apollo.specs.declared.Replica.{Replica}
use Rattle.apollo.specs.declared.Answer.{Answer}

abbrev pub refused_answer : Replica → (number place : ℕ) → Answer
refused_answer r number place = record { number = number; frames = 0; leader = 255; place = place; replica = r }
