-- Entering a round, and settling one after blames, by the code's tests. Assumes nothing.
use mathlib.Core.Path.{◌≡◌, sym, ◌∙◌}
use mathlib.Core.Bool.{Bool, true, false, ◌&&◌}
use mathlib.Core.List.{List, ◌++◌, flatten, append-nil}
use Prim.Native.Nat.{ℕ, ◌+◌, ◌≤◌, ◌<◌}
use lib.Dec.{eqb}
use lib.ListN.{drop}
use borrow.Author.Tests.{le-leb, lt-leb, leb-true}
use Rattle.sha256.specs.Fips.{sha256}
use Rattle.apollo.specs.Size.{frame_size}
use Rattle.apollo.specs.declared.Replica.{Replica}
use Rattle.apollo.specs.declared.Answer.{Answer}
use Rattle.apollo.specs.declared.Setup.{Setup}
use Rattle.apollo.specs.Setup.{setup_of, leader}
use Rattle.apollo.specs.Masks.{add_blame, certified}
use Rattle.apollo.specs.Replica.{with_round, with_timer, leads}
use Rattle.apollo.specs.Enter.{commit, waiting, hearing, entered, own_block, proposing, enter_round, settle, state}
use Rattle.apollo.specs.Outcome.{Outcome, next_leader, taken, outcome}
use Rattle.apollo.proofs.Tests.{and_first}
use Rattle.rounds.specs.Rounds.{told}

-- the leader that is told
module _ (r : Replica) where
  pub no_leader : r.last_round.0 < r.round.0 → 255 ≡ next_leader r
  unfolding next_leader
  no_leader h = rw (lt-leb r.round.0 r.last_round.0 h)

  pub some_leader : (s : Setup) (l : ℕ) → r.round.0 ≤ r.last_round.0 → s ≡ setup_of r → l ≡ leader s r.round.0
      → l ≡ next_leader r
  unfolding next_leader
  some_leader s l h d e = rw (le-leb r.round.0 r.last_round.0 h) (rw d at e)

  pub leads_last : (b : Bool) → b ≡ leads r → b ≡ true → r.round.0 ≤ r.last_round.0
  unfolding leads
  leads_last b e t = leb-true r.round.0 r.last_round.0 (and_first _ _ (sym e ∙ t))

module _ (r : Replica) (log entry out masks : List ℕ) where
  -- the own round, and another's
  module _ (out' log' : List ℕ) (q : Replica)
      (p : (out' ≡ own_block sha256 entry (state r log masks) ++ drop frame_size out) × (state q log' masks ≡ proposing sha256 entry (state r log masks))) where
    pub entered_own : (a : Answer) (b : Bool) → b ≡ leads r → b ≡ true → a ≡ told (commit (with_timer q q.timeout.0) log') 1
        → outcome a log' masks out' ≡ taken (enter_round sha256 entry (state r log masks)) out
    unfolding enter_round entered taken flatten
    entered_own a b eb t ea = rw (← eb, t, ea, append-nil, ← p.1, p.0)

  pub entered_other : (a : Answer) (b : Bool) → b ≡ leads r → b ≡ false → a ≡ told (commit (with_timer r r.timeout.0) log) 0
      → outcome a log masks out ≡ taken (enter_round sha256 entry (state r log masks)) out
  unfolding enter_round entered taken flatten
  entered_other a b eb t ea = rw (← eb, t, ea)

-- after blames for a round: R stays, or the next round is entered
module _ (r : Replica) (log masks entry out : List ℕ) (round : ℕ)
    (b : Bool) (eb : b ≡ eqb round r.round.0 && certified (setup_of r) masks round) where
  pub settled_still : (a : Answer) → b ≡ false → a ≡ told r 0
      → outcome a log masks out ≡ taken (settle sha256 entry (state r log masks) round) out
  unfolding settle taken flatten
  settled_still a k ea = rw (← eb, k, ea)

  pub settled_next : (q : Replica) (o : Outcome) → b ≡ true → q ≡ with_round r (round + 1)
      → o ≡ taken (enter_round sha256 entry (state q log masks)) out → o ≡ taken (settle sha256 entry (state r log masks) round) out
  unfolding settle waiting
  settled_next q o k eq e = rw (← eb, k) (rw eq at e)

-- a blame that is heard, with masks that are now masks'
pub heard_settled : (r : Replica) (log masks masks' entry out : List ℕ) (round signer : ℕ) (o : Outcome) → masks' ≡ add_blame masks round signer
    → o ≡ taken (settle sha256 entry (state r log masks') round) out
    → o ≡ taken (settle sha256 entry (hearing (state r log masks) round signer) round) out
unfolding hearing
heard_settled r log masks masks' entry out round signer o em e = rw em at e
