-- Document 01, "A card": a replica's committed list, and one list that begins another.
use Rattle.std.specs.Prelude.{ℕ, ◌≡◌, List, ◌++◌}
use Rattle.apollo.specs.declared.Replica.{Replica}
use Rattle.apollo.specs.Log.{chain}
use Rattle.apollo.specs.Enter.{State}

-- a replica's "committed list", from its record and its log: the frames of its chain up to the committed round
unfoldable pub committed_list : Replica → (log : List ℕ) → List (List ℕ)
committed_list r log = chain log r.committed_round.0

-- and of a state
abbrev pub committed : State → List (List ℕ)
committed c = committed_list c.replica c.log

-- one list of frames "begins" another, byte for byte
abbrev pub Begins : List (List ℕ) → List (List ℕ) → Type 0
Begins xs ys = (zs : List (List ℕ)) × (ys ≡ xs ++ zs)
