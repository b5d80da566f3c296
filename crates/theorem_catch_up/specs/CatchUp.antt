-- A replica that was away comes back (document 02, F-5): what it fetches from a neighbour, where that reaches its R, is a branch that it
-- takes once it has the blames of the rounds that the neighbour skipped.
use Rattle.std.specs.Prelude.{ℕ, ◌+◌, ◌*◌, ◌≤◌, ◌<◌, ◌≡◌, ◌⊎◌, ◌≢◌, true, cond, length, take, eqb, ltb}
use Rattle.std.proofs.Math.Option.{some}
use mathlib.Core.List.{List, [], ◌∷◌, ◌++◌, flatten}
use Rattle.apollo.specs.Size.{entry_most, frame_size, out_least, pair_size}
use Rattle.apollo.specs.Setup.{setup_of}
use Rattle.apollo.specs.Frame.{round, height, frames}
use Rattle.apollo.specs.Log.{slot, filled, chain}
use Rattle.apollo.specs.Committed.{Begins}
use Rattle.apollo.specs.Enter.{State}
use Rattle.apollo.specs.Judging.{Verdict, verdict, no_refusal}
use Rattle.apollo.specs.Outcome.{Outcome}
use Rattle.apollo.specs.BlockRun.{last_of}
use Rattle.apollo.specs.Branch.{first_uncertified}
use Rattle.apollo.specs.Fetch.{FetchOutcome, fetchable, fetch_call}
use Rattle.apollo.specs.Calls.{branch_call, blames_call}
use Rattle.apollo.specs.Refusal.{rounds_over, stale, not_certified, early}
use Rattle.apollo.specs.BenchSheet.{number, new_round}
use Rattle.theorem_agreement.specs.Run.{start, run}
use Rattle.theorem_agreement.specs.Cases.{OfLawful, OfPremises, EachState, TwoStates, Had, PremisesMet, StateLeft}

-- what a replica in state d has for one in state c: its chain (line) frames above c's committed height, lowest rounds first
abbrev pub missing : (c d : State) → List (List ℕ)
missing c d = fetchable d.replica d.log c.replica.committed_height.0

-- and above c's block of round k
abbrev pub beyond : (c d : State) (k : ℕ) → List (List ℕ)
beyond c d k = fetchable d.replica d.log (height (slot c.log k))

-- number and place of an answer
abbrev pub verdict_of : Outcome → Verdict
verdict_of o = verdict o.answer.number o.answer.place

-- the first round above k that x and the frames after it skip and that is not certified (shown) at c; 0 if none
abbrev pub lacking : State → (k : ℕ) (x : List ℕ) (ys : List (List ℕ)) → ℕ
lacking c k x ys = first_uncertified (setup_of c.replica) c.masks k (x ∷ ys)

-- how c answers them as a branch on its block of round k: 3, 10, 13 with that round, or taken
unfoldable pub received : State → (k : ℕ) (x : List ℕ) (ys : List (List ℕ)) → Verdict
received c k x ys =
    cond (eqb c.replica.round.0 (c.replica.last_round.0 + 1)) (verdict rounds_over 0)
    (cond (ltb (round (last_of x ys)) c.replica.round.0) (verdict stale 0)
    (cond (eqb (lacking c k x ys) 0) no_refusal (verdict not_certified (lacking c k x ys))))

-- c and d hold the same block in round k, not below c's committed round; or k is 0, the genesis of both
pub record Shared (c d : State) (k : ℕ) : Type 0 where
  pub from_committed : c.replica.committed_round.0 ≤ k
  pub held : (k ≡ 0) ⊎ (filled (slot c.log k) ≡ true)
  pub same : slot c.log k ≡ slot d.log k

-- those of some frames, their rounds rising, that are below round q
unfoldable pub beneath : (q : ℕ) → List (List ℕ) → List (List ℕ)
beneath q [] = []
beneath q (x ∷ xs) = cond (ltb (round x) q) (x ∷ beneath q xs) []

-- c answers a branch with v, for any entry and out buffer that pass 4 and 5
abbrev pub Answers : (c : State) (bytes : List ℕ) → Verdict → Type 0
Answers c bytes v =
    (entry out : List ℕ) → length entry ≤ entry_most → out_least ≤ length out → verdict_of (branch_call c bytes entry out) ≡ v

-- A fetch that goes on from the height of a frame of d's chain copies from those after it: fetches one after another give all, while d
-- stays. They pass 7, 8 and 9 (`GoodRun`)
abbrev pub GoesOn : Type 0
GoesOn =
    OfLawful (λ s calls. EachState calls (λ d. (h : ℕ) (xs : List (List ℕ)) (x : List ℕ) (ys : List (List ℕ))
    → fetchable d.replica d.log h ≡ xs ++ (x ∷ ys) → fetchable d.replica d.log (height x) ≡ ys))

-- and where its chain has only grown, to that of e, what it has above a height begins with what it had
abbrev pub GrowsOn : Type 0
GrowsOn =
    (d e : State) → Begins (chain d.log d.replica.last_round.0) (chain e.log e.replica.last_round.0)
    → (h : ℕ) → Begins (fetchable d.replica d.log h) (fetchable e.replica e.log h)

-- Of what d has above a block that both hold: x and ys are all of it or a beginning (of one fetch, say)
abbrev pub OfShared : ((c : State) (k : ℕ) (x : List ℕ) (ys : List (List ℕ)) → Type 0) → Type 0
OfShared P =
    OfLawful (λ s calls. TwoStates calls (λ c d. (k : ℕ) → Shared c d k → (x : List ℕ) (ys zs : List (List ℕ))
    → beyond c d k ≡ x ∷ (ys ++ zs) → P c k x ys))

-- End to end, it is answered so. Never with 2, 6, 7, 8, 9, 11 or 12
abbrev pub Continues : Type 0
Continues = OfShared (λ c k x ys. Answers c (flatten (x ∷ ys)) (received c k x ys))

-- A blame for a round above R is early (14). After a 13 that is no dead end: the round that it names is at most R, or else the frames below
-- that round, handed in by themselves, are taken, and then it is
abbrev pub NoDeadEnd : (c : State) (k : ℕ) (x : List ℕ) (ys : List (List ℕ)) → Type 0
NoDeadEnd c k x ys =
    (q : ℕ) → received c k x ys ≡ verdict not_certified q → (entry out : List ℕ) → length entry ≤ entry_most → out_least ≤ length out
    → (q ≤ c.replica.round.0)
    ⊎ ((number (branch_call c (flatten (beneath q (x ∷ ys))) entry out) ≡ 0)
    × (q ≤ new_round (branch_call c (flatten (beneath q (x ∷ ys))) entry out)))

abbrev pub Split : Type 0
Split = OfShared NoDeadEnd

-- With the premises, c's committed block is such a one as soon as what d has above it reaches c's R
abbrev pub Common : Type 0
Common =
    OfPremises (λ s calls. TwoStates calls (λ c d. (x : List ℕ) (ys zs : List (List ℕ)) → missing c d ≡ x ∷ (ys ++ zs)
    → c.replica.round.0 ≤ round (last_of x ys) → Shared c d c.replica.committed_round.0))

-- so what d has above c's committed height, all of it or a beginning, is answered so, wherever it ends
abbrev pub CatchUp : Type 0
CatchUp =
    OfPremises (λ s calls. TwoStates calls (λ c d. (x : List ℕ) (ys zs : List (List ℕ))
    → missing c d ≡ x ∷ (ys ++ zs) → Answers c (flatten (x ∷ ys)) (received c c.replica.committed_round.0 x ys)))

-- and with one fetch at d and one branch at c: x and ys are what the fetch wrote to its out buffer (tray)
abbrev pub OneFetch : Type 0
OneFetch =
    OfPremises (λ s calls. TwoStates calls (λ c d. (tray : List ℕ) (o : FetchOutcome)
    → o ≡ fetch_call d.replica d.log c.replica.committed_height.0 tray
    → (x : List ℕ) (ys : List (List ℕ)) → frames o.answer.count o.out ≡ x ∷ ys
    → Answers c (take (frame_size * o.answer.count) o.out) (received c c.replica.committed_round.0 x ys)))

-- Of what was fetched earlier: c is a replica's state now, c₀ one that it had, and d one that any replica had. x and ys are what d had
-- above the height that c₀ had committed, all of it or a beginning; P speaks of c, of the round that c₀ had committed, and of these frames
abbrev pub OfFetched : ((c : State) (k : ℕ) (x : List ℕ) (ys : List (List ℕ)) → Type 0) → Type 0
OfFetched P =
    OfPremises (λ s calls. (i j : ℕ) (c c₀ d : State) → (run start calls).states i ≡ some c → Had calls i c₀ → Had calls j d
    → (x : List ℕ) (ys zs : List (List ℕ)) → missing c₀ d ≡ x ∷ (ys ++ zs) → P c c₀.replica.committed_round.0 x ys)

-- It is answered so too, whatever came since: c may have committed more, by the blames after a 13, say, and d's chain may be another one
abbrev pub CatchUpLater : Type 0
CatchUpLater = OfFetched (λ c k x ys. Answers c (flatten (x ∷ ys)) (received c k x ys))

-- and a 13 is no dead end
abbrev pub SplitLater : Type 0
SplitLater = OfFetched NoDeadEnd

-- The premises can hold, and each of these verdicts comes, on whole runs that one replica has for another
pub record Comes (v : Verdict) : Type 0 where
  pub list : PremisesMet
  pub back : StateLeft list
  pub other : StateLeft list
  pub x : List ℕ
  pub ys : List (List ℕ)
  pub apart : back.i ≢ other.i
  pub has : missing back.c other.c ≡ x ∷ ys
  pub verdict_is : received back.c back.c.replica.committed_round.0 x ys ≡ v

pub record VerdictsCome : Type 0 where
  pub over : Comes (verdict rounds_over 0)
  pub behind : Comes (verdict stale 0)
  pub taken : Comes no_refusal
  -- the round named is R: its blames go in at once
  pub waits : Comes (verdict not_certified 2)
  pub waits_for : waits.back.c.replica.round.0 ≡ 2
  -- both hold the block of round 1 there, and c has committed nothing: from that block on d has one frame for it
  pub shared : Shared waits.back.c waits.other.c 1
  pub uncommitted : waits.back.c.replica.committed_round.0 ≡ 0
  pub one_more : length (beyond waits.back.c waits.other.c 1) ≡ 1
  -- The split is needed: the round named is above R, its two blames, f + 1 of them, are early, and the frames below it are taken
  pub far : Comes (verdict not_certified 2)
  pub far_from : far.back.c.replica.round.0 ≡ 1
  pub f_one : far.list.s.f ≡ 1
  pub blames : List ℕ
  pub of_round : round blames ≡ 2
  pub two : length blames ≡ pair_size
  pub out : List ℕ
  pub too_early : number (blames_call far.back.c blames [] out) ≡ early
  pub below_taken : number (branch_call far.back.c (flatten (beneath 2 (far.x ∷ far.ys))) [] out) ≡ 0

-- Frames are answered 13, the committed round grows by the blames of the round named (document 02, F-2), and the same frames are taken: they
-- begin at or below the committed height now, so that `CatchUp` does not speak of them any more
pub record TakenLater : Type 0 where
  pub list : PremisesMet
  pub back : StateLeft list
  pub other : StateLeft list
  pub before : State
  pub had : Had list.calls back.i before
  pub x : List ℕ
  pub ys : List (List ℕ)
  pub apart : back.i ≢ other.i
  pub fetched : missing before other.c ≡ x ∷ ys
  pub waited : received before before.replica.committed_round.0 x ys ≡ verdict not_certified 2
  pub more : before.replica.committed_round.0 < back.c.replica.committed_round.0
  pub begins_low : height x ≤ back.c.replica.committed_height.0
  pub taken : received back.c before.replica.committed_round.0 x ys ≡ no_refusal
