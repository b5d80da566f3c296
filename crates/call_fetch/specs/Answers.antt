-- The answers of fetch.
use Rattle.std.specs.Prelude.{ℕ, Result, Ok, Err}
use Rattle.apollo.specs.declared.Fetched.{Fetched}
use Rattle.apollo.specs.declared.refusal.Refusal.{Refusal}
use Rattle.apollo.specs.Refused.{number}

-- no frames with the number of a refusal
abbrev pub no_frames : (number : ℕ) → Fetched
no_frames number = record { number = number; count = 0 }

-- what the code's result tells
abbrev pub told : Result ℕ Refusal → Fetched
told (Ok n) = record { number = 0; count = n }
told (Err e) = no_frames (number e)
