-- Document 01, "Bench sheet": one statement over its eleven items, about the calls with SHA-256, with commit by document 02, F-2.
-- Each item is claimed for every state, frame, entry and out buffer that its words fit. Items 1, 9 and 11 name a leader: they have the
-- old turn (document 02, F-4); the others hold for every rotation.
use Rattle.std.specs.Prelude.{ℕ, zero, suc, ◌+◌, ◌*◌, ◌≤◌, ◌<◌, ◌≡◌, true, false, ◌&&◌, cond, length, take}
use mathlib.Core.List.{List, [], ◌∷◌, ◌++◌, flatten}
use Rattle.std.proofs.Math.Option.{none}
use Rattle.sha256.specs.Fips.{sha256}
use Rattle.apollo.specs.Size.{entry_most, frame_size, out_least}
use Rattle.apollo.specs.declared.Replica.{Replica}
use Rattle.apollo.specs.declared.Setup.{Setup}
use Rattle.apollo.specs.Rotation.{in_turn, padded}
use Rattle.apollo.specs.Setup.{setup, setup_of, leader, setup_number}
use Rattle.apollo.specs.Frame.{signer, round, blame_form, linked, checked}
use Rattle.apollo.specs.Log.{genesis, slot, filled}
use Rattle.apollo.specs.Masks.{mask, add_blame, certified}
use Rattle.apollo.specs.Replica.{fresh, valid_own, valid_log, valid_masks, valid_replica}
use Rattle.apollo.specs.Enter.{State, commit}
use Rattle.apollo.specs.BlockRun.{last_of, block, blocks}
use Rattle.apollo.specs.Outcome.{Outcome, state_of}
use Rattle.apollo.specs.Calls.{open_call, branch_call, blame_call, blames_call, tick_call}

-- "the old turn" of 2f + 1 cards
abbrev pub turn : (f : ℕ) → List ℕ
turn f = in_turn (2 * f + 1)

-- the rounds of the chain (line) up to round r
unfoldable pub chain_rounds : (log : List ℕ) (r : ℕ) → List ℕ
chain_rounds log zero = []
chain_rounds log (suc r) = chain_rounds log r ++ cond (filled (slot log (suc r))) (suc r ∷ []) []

-- the round and the height that commit sets
abbrev pub committed_round : Replica → (log : List ℕ) → ℕ
committed_round r log = (commit r log).committed_round.0

abbrev pub committed_height : Replica → (log : List ℕ) → ℕ
committed_height r log = (commit r log).committed_height.0

-- the number and the place of an answer, and the R and the committed round that it leaves
abbrev pub number : Outcome → ℕ
number o = o.answer.number

abbrev pub place : Outcome → ℕ
place o = o.answer.place

abbrev pub new_round : Outcome → ℕ
new_round o = o.answer.replica.round.0

abbrev pub new_committed : Outcome → ℕ
new_committed o = o.answer.replica.committed_round.0

-- no open with these is refused with 1, 17 or 4
pub record Openable (id f timeout T : ℕ) (rotation log masks out : List ℕ) : Type 0 where
  pub setup : setup_number f T rotation ≡ 0
  pub own : valid_own (fresh id f timeout T rotation) ≡ true
  pub slots : valid_log (fresh id f timeout T rotation) log ≡ true
  pub lent : valid_masks (fresh id f timeout T rotation) masks ≡ true
  pub room : out_least ≤ length out

-- no call on s with this out buffer is refused with 2, 3 or 4
pub record Callable (s : State) (out : List ℕ) : Type 0 where
  pub valid : valid_replica s.replica s.log ≡ true
  pub lent : valid_masks s.replica s.masks ≡ true
  pub running : s.replica.round.0 ≤ s.replica.last_round.0
  pub room : out_least ≤ length out

-- the parent of x is in round p: that slot is filled and x fits it, and no filled slot between the two fits
pub record ParentIn (log x : List ℕ) (p : ℕ) : Type 0 where
  pub below : p < round x
  pub found : (filled (slot log p) && linked (slot log p) x) ≡ true
  pub highest : (q : ℕ) → p < q → q < round x → (filled (slot log q) && linked (slot log q) x) ≡ false

-- the first frame emitted is a blame by replica i for round r
pub record Blames (s : Setup) (o : Outcome) (i r : ℕ) : Type 0 where
  pub taken : number o ≡ 0
  pub emitted : 1 ≤ o.answer.frames
  pub form : blame_form s (take frame_size o.out) ≡ true
  pub check : checked sha256 (take frame_size o.out) ≡ true
  pub by : signer o.out ≡ i
  pub for : round o.out ≡ r

-- 3: f = 1, chain 1, 3, R = 4, and the next tick's blame certifies round 4
pub record Item3 (s : State) (out : List ℕ) : Type 0 where
  pub callable : Callable s out
  pub f : s.replica.f ≡ 1
  pub awaited : s.replica.round.0 ≡ 4
  pub chain : chain_rounds s.log 4 ≡ 1 ∷ 3 ∷ []
  pub due : s.replica.timer.0 ≡ 1
  pub certifies : certified (setup_of s.replica) (add_blame s.masks 4 s.replica.id) 4 ≡ true

-- 9: f = 1, T = 6, R = 3, x a block for round 3 whose parent is in round 1
pub record Item9 (s : State) (x out : List ℕ) : Type 0 where
  pub callable : Callable s out
  pub f : s.replica.f ≡ 1
  pub last : s.replica.last_round.0 ≡ 6
  pub rotation : s.replica.rotation ≡ padded (turn 1)
  pub awaited : s.replica.round.0 ≡ 3
  pub form : block (setup 1 6 (turn 1)) x ≡ true
  pub round : round x ≡ 3
  pub parent : ParentIn s.log x 1

-- 10: f = 1, replica 1, chain 1, 2, 3, R = 4, committed as commit sets it
pub record Item10 (s : State) (out : List ℕ) : Type 0 where
  pub callable : Callable s out
  pub f : s.replica.f ≡ 1
  pub id : s.replica.id ≡ 1
  pub awaited : s.replica.round.0 ≡ 4
  pub chain : chain_rounds s.log 3 ≡ 1 ∷ 2 ∷ 3 ∷ []
  pub renewed : s.replica ≡ commit s.replica s.log

-- 10: the slots 1, 2, 3 hold blocks of their rounds, each on the one below it
pub record Held (s : Setup) (log : List ℕ) : Type 0 where
  pub first : round (slot log 1) ≡ 1
  pub second : round (slot log 2) ≡ 2
  pub third : round (slot log 3) ≡ 3
  pub root : linked genesis (slot log 1) ≡ true
  pub linked : blocks s none (slot log 1 ∷ slot log 2 ∷ slot log 3 ∷ []) ≡ true

pub record BenchSheet : Type 0 where
  pub item_1 : (T : ℕ)
      → (leader (setup 1 T (turn 1)) 1 ≡ 0) × (leader (setup 1 T (turn 1)) 3 ≡ 2) × (leader (setup 1 T (turn 1)) 4 ≡ 0)
      × (leader (setup 7 T (turn 7)) 16 ≡ 0)
  -- 2, 3, 4: the chain below R; the tip is its last round
  pub item_2 : (r : Replica) (log : List ℕ) → r.f ≡ 1
      → (r.round.0 ≡ 3 → chain_rounds log 2 ≡ 1 ∷ 2 ∷ [] → committed_round r log ≡ 1)
      × (r.round.0 ≡ 2 → chain_rounds log 1 ≡ 1 ∷ [] → (committed_round r log ≡ 0) × (committed_height r log ≡ 0))
  -- R is one past the tip, or round 4 is skipped; and so after a call that certifies round 4 and stores no block but its own
  pub item_3 : ((r : Replica) (log : List ℕ) → r.f ≡ 1
      → (r.round.0 ≡ 4 → chain_rounds log 3 ≡ 1 ∷ 3 ∷ [] → committed_round r log ≡ 1)
      × (r.round.0 ≡ 5 → chain_rounds log 4 ≡ 1 ∷ 3 ∷ [] → committed_round r log ≡ 3))
      × ((s : State) (entry out : List ℕ) → Item3 s out → length entry ≤ entry_most → new_committed (tick_call s entry out) ≡ 3)
  pub item_4 : (r : Replica) (log : List ℕ) → r.f ≡ 2 → r.round.0 ≡ 4 → chain_rounds log 3 ≡ 1 ∷ 2 ∷ 3 ∷ []
      → committed_round r log ≡ 1
  pub item_5 : (T : ℕ) (rotation masks : List ℕ) (r : ℕ)
      → (mask masks r ≡ 3 → certified (setup 1 T rotation) masks r ≡ true)
      × (mask masks r ≡ 1 → certified (setup 1 T rotation) masks r ≡ false)
      × (mask masks r ≡ 21 → certified (setup 2 T rotation) masks r ≡ true)
  -- a branch of x and xs, whole frames that pass the tests before 10
  pub item_6 : (s : State) (x : List ℕ) (xs : List (List ℕ)) (entry out : List ℕ) → Callable s out → length entry ≤ entry_most
      → s.replica.round.0 ≡ 3 → length (x ∷ xs) ≤ s.replica.last_round.0
      → blocks (setup_of s.replica) none (x ∷ xs) ≡ true
      → (round (last_of x xs) ≡ 2 → number (branch_call s (flatten (x ∷ xs)) entry out) ≡ 10)
      × (round (last_of x xs) ≡ 3 → ¬ (number (branch_call s (flatten (x ∷ xs)) entry out) ≡ 10))
  -- open, then branch, blame, blames and tick
  pub item_7 : ((id f timeout T : ℕ) (rotation log masks entry out : List ℕ) → Openable id f timeout T rotation log masks out
      → (length entry ≡ 400 → number (open_call id f timeout T rotation log masks entry out) ≡ 0)
      × (length entry ≡ 401 → number (open_call id f timeout T rotation log masks entry out) ≡ 5))
      × ((s : State) (bytes entry out : List ℕ) → Callable s out
      → (length entry ≡ 400 → (¬ (number (branch_call s bytes entry out) ≡ 5))
      × (¬ (number (blame_call s bytes entry out) ≡ 5)) × (¬ (number (blames_call s bytes entry out) ≡ 5))
      × (number (tick_call s entry out) ≡ 0))
      × (length entry ≡ 401 → (number (branch_call s bytes entry out) ≡ 5) × (number (blame_call s bytes entry out) ≡ 5)
      × (number (blames_call s bytes entry out) ≡ 5) × (number (tick_call s entry out) ≡ 5)))
  -- ticks on a state that has the whole timeout left
  pub item_8 : (s : State) (entry out entry' out' : List ℕ) → Callable s out → length entry ≤ entry_most → length entry' ≤ entry_most
      → out_least ≤ length out' → s.replica.timer ≡ s.replica.timeout
      → (s.replica.timeout.0 ≡ 1
      → Blames (setup_of s.replica) (tick_call s entry out) s.replica.id s.replica.round.0)
      × (s.replica.timeout.0 ≡ 2 → (number (tick_call s entry out) ≡ 0) × ((tick_call s entry out).answer.frames ≡ 0)
      × Blames (setup_of s.replica) (tick_call (state_of (tick_call s entry out)) entry' out') s.replica.id
      s.replica.round.0)
  -- It is taken if round 2 is not committed, else 12 may be the answer; with R = 3 and f = 1 no call commits it.
  pub item_9 : (s : State) (x entry out : List ℕ) → Item9 s x out → length entry ≤ entry_most
      → (mask s.masks 2 ≡ 1 → (number (branch_call s x entry out) ≡ 13) × (place (branch_call s x entry out) ≡ 2))
      × (mask s.masks 2 ≡ 3 → s.replica.committed_round.0 ≤ 1 → (number (branch_call s x entry out) ≡ 0)
      × (s.replica.id ≡ 1 → new_round (branch_call s x entry out) ≡ 4)
      × (s.replica.id ≡ 0 → new_round (branch_call s x entry out) ≡ 5))
  -- the committed round; a block x for round 4 whose parent is in round 1; a child y of the held frame 3 in round 4
  pub item_10 : (s : State) (entry out : List ℕ) → Item10 s out → length entry ≤ entry_most
      → (s.replica.committed_round.0 ≡ 2)
      × ((x : List ℕ) → block (setup_of s.replica) x ≡ true → round x ≡ 4 → ParentIn s.log x 1
      → (certified (setup_of s.replica) s.masks 2 ≡ true → certified (setup_of s.replica) s.masks 3 ≡ true
      → number (branch_call s x entry out) ≡ 12)
      × (certified (setup_of s.replica) s.masks 2 ≡ false → certified (setup_of s.replica) s.masks 3 ≡ false
      → (number (branch_call s x entry out) ≡ 13) × (place (branch_call s x entry out) ≡ 2)))
      × ((y : List ℕ) → Held (setup_of s.replica) s.log → block (setup_of s.replica) y ≡ true
      → linked (slot s.log 3) y ≡ true → round y ≡ 4
      → number (branch_call s (slot s.log 1 ++ slot s.log 2 ++ slot s.log 3 ++ y) entry out) ≡ 0)
  pub item_11 : (f timeout : ℕ) (log masks entry out entry' out' : List ℕ)
      → Openable 0 f timeout 1 (turn f) log masks out → length entry ≤ entry_most
      → (number (open_call 0 f timeout 1 (turn f) log masks entry out) ≡ 0)
      × ((open_call 0 f timeout 1 (turn f) log masks entry out).answer.frames ≡ 1)
      × (block (setup f 1 (turn f)) (take frame_size (open_call 0 f timeout 1 (turn f) log masks entry out).out) ≡ true)
      × (round (open_call 0 f timeout 1 (turn f) log masks entry out).out ≡ 1)
      × (new_round (open_call 0 f timeout 1 (turn f) log masks entry out) ≡ 2)
      × (number (tick_call (state_of (open_call 0 f timeout 1 (turn f) log masks entry out)) entry' out') ≡ 3)
