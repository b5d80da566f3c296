-- Document 01, "A card": the calls, with SHA-256 for the names ("Names").
use Rattle.std.specs.Prelude.{ℕ, List}
use Rattle.sha256.specs.Fips.{sha256}
use Rattle.apollo.specs.declared.Replica.{Replica}
use Rattle.apollo.specs.declared.Marked.{Marked}
use Rattle.apollo.specs.Enter.{State}
use Rattle.apollo.specs.Outcome.{Outcome}
use Rattle.apollo.specs.Open.{open_with}
use Rattle.apollo.specs.Branch.{branch_with}
use Rattle.apollo.specs.Blame.{blame_with, blames_with}
use Rattle.apollo.specs.Tick.{tick_with}
use Rattle.apollo.specs.Equivocation.{equivocation_with}
pub use Rattle.apollo.specs.Enter.{state}
pub use Rattle.apollo.specs.Outcome.{outcome}
pub use Rattle.apollo.specs.Read.{read_call}
pub use Rattle.apollo.specs.Fetch.{fetch_call, fetched}

abbrev pub open_call : (id f timeout last_round : ℕ) (rotation log masks entry out : List ℕ) → Outcome
open_call = open_with sha256

abbrev pub branch_call : State → (bytes entry out : List ℕ) → Outcome
branch_call = branch_with sha256

abbrev pub blame_call : State → (bytes entry out : List ℕ) → Outcome
blame_call = blame_with sha256

-- document 02, F-1
abbrev pub blames_call : State → (bytes entry out : List ℕ) → Outcome
blames_call = blames_with sha256

abbrev pub tick_call : State → (entry out : List ℕ) → Outcome
tick_call = tick_with sha256

-- document 02, F-6
abbrev pub equivocation_call : Replica → (bytes : List ℕ) → Marked
equivocation_call = equivocation_with sha256
