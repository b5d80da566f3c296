-- The answer of a call that is taken.
use Rattle.std.specs.Prelude.{ℕ}
use Rattle.apollo.specs.declared.Replica.{Replica}
use Rattle.apollo.specs.declared.Answer.{Answer}
use Rattle.apollo.specs.Outcome.{next_leader}

abbrev pub told : Replica → (frames : ℕ) → Answer
told r frames = record { number = 0; frames = frames; leader = next_leader r; place = 0; replica = r }
