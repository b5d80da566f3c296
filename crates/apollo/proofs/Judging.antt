-- How far a call comes: past refusals 2 to 5, past 6 to 9 for a branch of good frames, and where its first frame attaches.
-- Assumes nothing.
use Prim.Native.Nat.{ℕ, zero, suc, ◌+◌, ◌-◌, ◌*◌, ◌/◌, ◌%◌, ◌≤◌, ◌<◌}
use mathlib.Core.Path.{◌≡◌, refl, sym, ap, ◌∙◌, subst}
use mathlib.Core.List.{List, ◌∷◌, flatten}
use mathlib.Core.Option.{none, some}
use mathlib.Core.Bool.{Bool, true, false, ◌&&◌, not, cond}
use native.Mathlib.Omega.{arith}
use lib.ListN.{length}
use lib.Dec.{eqb, ltb}
use borrow.Author.Tests.{lt-ltb, le-ltb, eqb-true, eqb-false, eq-eqb, ne_eqb}
use Rattle.sha256.specs.Fips.{sha256}
use Rattle.apollo.specs.Size.{frame_size}
use Rattle.apollo.specs.Setup.{setup_of}
use Rattle.apollo.specs.Frame.{round, frames, linked}
use Rattle.apollo.specs.Log.{slot, filled, attach}
use Rattle.apollo.specs.Replica.{valid_replica, valid_masks}
use Rattle.apollo.specs.Enter.{State}
use Rattle.apollo.specs.Judging.{Verdict}
use Rattle.apollo.specs.Outcome.{Outcome, refused, guarded}
use Rattle.apollo.specs.BlockRun.{last_of, blocks, judged_run}
use Rattle.apollo.specs.Branch.{placed, branched, branch_with}
use Rattle.apollo.specs.BenchSheet.{Callable, ParentIn}
use Rattle.apollo.proofs.Tests.{and-true, both, cond_true, cond_false}
use Rattle.apollo.proofs.Frames.{whole_of}
use Rattle.apollo.proofs.BlockRun.{judged_blocks, run_length, run_frames}

module _ {s : State} {out : List ℕ} (c : Callable s out) (entry : List ℕ) where
  before_entry : (o : Outcome)
      → guarded s entry out o ≡ cond (ltb 400 (length entry)) (refused s out 5 0) o
  unfolding guarded
  before_entry o =
      let R : ℕ = s.replica.round.0 in
      let T : ℕ = s.replica.last_round.0 in
      let running : R ≤ T = c.running in
      let valid : not (valid_replica s.replica s.log && valid_masks s.replica s.masks) ≡ false =
      ap not (both (valid_replica s.replica s.log) (valid_masks s.replica s.masks) c.valid c.lent) in
      cond_false _ _ valid ∙ cond_false _ _ (ne_eqb R (T + 1) (λ e. omega arith))
      ∙ cond_false _ _ (le-ltb (length out) 1024 c.room)

  -- with an entry that fits, a call gives what it gives after refusal 5
  pub passes : length entry ≤ 400 → (o : Outcome) → guarded s entry out o ≡ o
  passes l o = before_entry o ∙ cond_false _ _ (le-ltb 400 (length entry) l)

  pub too_long : 400 < length entry → (o : Outcome) → guarded s entry out o ≡ refused s out 5 0
  too_long l o = before_entry o ∙ cond_true _ _ (lt-ltb 400 (length entry) l)

module _ {s : State} {out : List ℕ} (c : Callable s out) (entry : List ℕ) (l : length entry ≤ 400) (x : List ℕ)
    (xs : List (List ℕ)) (fit : length (x ∷ xs) ≤ s.replica.last_round.0)
    (good : blocks (setup_of s.replica) none (x ∷ xs) ≡ true) where
  reads : branch_with sha256 s (flatten (x ∷ xs)) entry out ≡ branched sha256 entry out s (x ∷ xs)
  unfolding branch_with
  reads =
      let T : ℕ = s.replica.last_round.0 in
      let k : ℕ = length (x ∷ xs) in
      let b : List ℕ = flatten (x ∷ xs) in
      let size : length b ≡ frame_size * k = run_length (setup_of s.replica) none (x ∷ xs) good in
      let one : 1 ≤ k = omega arith in
      let n : length b / frame_size ≡ k = omega arith in
      let rest : length b % frame_size ≡ 0 = omega arith in
      passes c entry l _
      ∙ cond_true _ _ (whole_of T b (record { even = rest; some = omega arith; few = omega arith }))
      ∙ ap (branched sha256 entry out s) (ap (λ i. frames i b) n ∙ run_frames (setup_of s.replica) none (x ∷ xs) good)

  verdict : eqb (judged_run sha256 (setup_of s.replica) 0 none (x ∷ xs)).number 0 ≡ true
  verdict =
      eq-eqb (judged_run sha256 (setup_of s.replica) 0 none (x ∷ xs)).number 0
      (ap (λ (v : Verdict). v.number) (judged_blocks (setup_of s.replica) 0 none (x ∷ xs) good))

  -- a branch of good frames is stale if it ends below R
  pub stale_branch : round (last_of x xs) < s.replica.round.0
      → branch_with sha256 s (flatten (x ∷ xs)) entry out ≡ refused s out 10 0
  unfolding branched
  stale_branch low =
      reads ∙ cond_true _ _ verdict ∙ cond_true _ _ (lt-ltb (round (last_of x xs)) s.replica.round.0 low)

  -- and else comes to where it attaches
  pub fresh_branch : s.replica.round.0 ≤ round (last_of x xs)
      → branch_with sha256 s (flatten (x ∷ xs)) entry out
      ≡ placed sha256 entry out s x xs (attach s.log x (round x - 1))
  unfolding branched
  fresh_branch high =
      reads ∙ cond_true _ _ verdict ∙ cond_false _ _ (le-ltb (round (last_of x xs)) s.replica.round.0 high)

-- the highest round that a frame fits; the genesis is always there
pub attach_from : (log x : List ℕ) (p r : ℕ) → p ≤ r → (1 ≤ p → filled (slot log p) ≡ true) → linked (slot log p) x ≡ true
    → ((q : ℕ) → p < q → q ≤ r → (filled (slot log q) && linked (slot log q) x) ≡ false)
    → attach log x r ≡ some p
unfolding attach slot
attach_from log x zero zero l f e h = cond_true _ _ e
attach_from log x (suc p) zero l f e h = absurd (omega arith)
attach_from log x p (suc r) l f e h =
    go (λ m. attach_from log x p r m f e (λ q a b. h q a (omega arith))) (eqb p (suc r)) refl
  where
    go : (p ≤ r → attach log x r ≡ some p) → (b : Bool) → eqb p (suc r) ≡ b → attach log x (suc r) ≡ some p
    go ih true t =
        let q : p ≡ suc r = eqb-true p (suc r) t in
        cond_true _ _ (subst (λ k. (filled (slot log k) && linked (slot log k) x) ≡ true) q (both _ _ (f (omega arith)) e)) ∙ ap some (sym q)
    go ih false t =
        let ne : ¬ (p ≡ suc r) = eqb-false p (suc r) t in
        cond_false _ _ (h (suc r) (omega arith) (omega arith)) ∙ ih (omega arith)

-- a frame attaches to the round of its parent
pub attaches : (log x : List ℕ) (p : ℕ) → 1 ≤ p → ParentIn log x p → attach log x (round x - 1) ≡ some p
attaches log x p one m =
    let below : p < round x = m.below in
    let t = and-true (filled (slot log p)) (linked (slot log p) x) m.found in
    attach_from log x p (round x - 1) (omega arith) (λ _. t.0) t.1 (λ q a b. m.highest q a (omega arith))
