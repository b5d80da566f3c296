-- What a mark stands for (document 02, F-6).
use Rattle.std.specs.Prelude.{ℕ, ◌≡◌, ◌≢◌, List, true}
use Rattle.apollo.specs.declared.Setup.{Setup}
use Rattle.apollo.specs.Setup.{leader}
use Rattle.apollo.specs.Frame.{round, digest}
use Rattle.apollo.specs.BlockRun.{block}
use Rattle.theorem_agreement.specs.Run.{Event, Seen}

-- card k is the leader of a round of which two good blocks were seen that have different digests (names)
pub record Equivocated (s : Setup) (past : List Event) (k : ℕ) : Type 0 where
  pub one : List ℕ
  pub other : List ℕ
  pub one_seen : Seen one past
  pub other_seen : Seen other past
  pub one_block : block s one ≡ true
  pub other_block : block s other ≡ true
  pub one_round : round one ≡ round other
  pub names_differ : digest one ≢ digest other
  pub led : leader s (round one) ≡ k
