-- Document 01, "A card": commit, entering a round, and what follows blames; commit by document 02, F-2.
use Rattle.std.specs.Prelude.{ℕ, ◌+◌, ◌-◌, List, [], ◌∷◌, ◌&&◌, cond, eqb}
use Rattle.apollo.specs.declared.Replica.{Replica}
use Rattle.apollo.specs.Setup.{setup_of}
use Rattle.apollo.specs.Frame.{height, digest, make_block}
use Rattle.apollo.specs.Log.{slot, store, highest}
use Rattle.apollo.specs.Masks.{add_blame, certified}
use Rattle.apollo.specs.Replica.{with_round, with_timer, with_tip, with_committed, leads}

-- a replica with what is lent to it: the record, the log (book) and the blame masks
pub record State : Type 0 where
  pub replica : Replica
  pub log : List ℕ
  pub masks : List ℕ

-- the same from its parts
abbrev pub state : Replica → (log masks : List ℕ) → State
state r log masks = record { replica = r; log = log; masks = masks }

-- what a call does: the state it leaves, and the frames emitted (put out), in order
pub record Effect : Type 0 where
  pub state : State
  pub emitted : List (List ℕ)

-- the highest round that may be committed: R − 1 − f, none (0) where that is below 1
unfoldable pub commit_limit : Replica → ℕ
commit_limit r = r.round.0 - 1 - r.f

-- commit
unfoldable pub commit : Replica → (log : List ℕ) → Replica
commit r log = with_committed r (highest log (commit_limit r)) (height (slot log (highest log (commit_limit r))))

-- the record with its tip in round t, at height h, and R = t + 1
unfoldable pub tipped : Replica → (t h : ℕ) → Replica
tipped r t h = with_round (with_tip r t h) (t + 1)

-- the state with another R and other ticks left
unfoldable pub waiting : State → (round timer : ℕ) → State
waiting s round timer =
    record { replica = with_timer (with_round s.replica round) timer; log = s.log; masks = s.masks }

-- the state with replica i's blame for round r
unfoldable pub hearing : State → (r i : ℕ) → State
hearing s r i = record { replica = s.replica; log = s.log; masks = add_blame s.masks r i }

-- the state with another log, its tip in round t at height h
unfoldable pub holding : State → (log : List ℕ) (t h : ℕ) → State
holding s log t h = record { replica = tipped s.replica t h; log = log; masks = s.masks }

-- the state that waits for R, which grew for the last time in its call: the whole wait left, committed renewed
unfoldable pub entered : State → State
entered s =
    record {
      replica = commit (with_timer s.replica s.replica.timeout.0) s.log;
      log = s.log;
      masks = s.masks;
    }

module _ (hash : List ℕ → List ℕ) (entry : List ℕ) where
  -- the block for R on the tip, with the lent entry
  unfoldable pub own_block : State → List ℕ
  own_block s =
      make_block hash s.replica.id s.replica.round.0 (s.replica.tip_height.0 + 1)
      (digest (slot s.log s.replica.tip_round.0)) entry

  -- the state with that block in slot R as the tip
  unfoldable pub proposing : State → State
  proposing s =
      holding s (store s.log s.replica.round.0 (own_block s)) s.replica.round.0 (s.replica.tip_height.0 + 1)

  -- entering R; every growth of R leads here, so committed is renewed once in a call, by its last R
  unfoldable pub enter_round : State → Effect
  enter_round s =
      cond (leads s.replica) (record { state = entered (proposing s); emitted = own_block s ∷ [] })
      (record { state = entered s; emitted = [] })

  -- after a blame for round r, or a set of them: if that is R and now certified, R grows by 1 and is entered
  unfoldable pub settle : State → (r : ℕ) → Effect
  settle s r =
      cond (eqb r s.replica.round.0 && certified (setup_of s.replica) s.masks r)
      (enter_round (waiting s (r + 1) s.replica.timer.0)) (record { state = s; emitted = [] })
