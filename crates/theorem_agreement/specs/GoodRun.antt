-- The chain (line) of a state that calls made is a run of good frames.
use Rattle.std.specs.Prelude.{ℕ, ◌≡◌, List, ◌++◌, true}
use Rattle.std.proofs.Math.Option.{none, some}
use Rattle.apollo.specs.Log.{genesis, chain}
use Rattle.apollo.specs.BlockRun.{blocks}
use Rattle.apollo.specs.Fetch.{fetchable}
use Rattle.theorem_agreement.specs.Cases.{OfLawful, EachState}

-- The chain up to any round, so the committed list too, is a run of good frames on the genesis
abbrev pub FromGenesis : Type 0
FromGenesis = OfLawful (λ s calls. EachState calls (λ d. (n : ℕ) → blocks s (some genesis) (chain d.log n) ≡ true))

-- and so are its frames above some height, all of them or the first ones, with any parent: they pass 7, 8 and 9 as a branch
abbrev pub GoodRun : Type 0
GoodRun =
    OfLawful (λ s calls. EachState calls (λ d. (h : ℕ) (xs zs : List (List ℕ)) → fetchable d.replica d.log h ≡ xs ++ zs
    → blocks s none xs ≡ true))
