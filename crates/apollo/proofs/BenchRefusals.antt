-- Items 6 and 7 of the bench sheet: stale branches, and the length of the entry. Assumes nothing.
use Prim.Native.Nat.{ℕ, ◌-◌, ◌*◌, ◌/◌, ◌≤◌}
use mathlib.Core.Path.{◌≡◌, ap}
use mathlib.Core.List.{List, [], ◌∷◌, flatten}
use mathlib.Core.Option.{Option, none, some}
use mathlib.Core.Bool.{true}
use native.Mathlib.Omega.{arith}
use lib.ListN.{length, take}
use lib.Dec.{eqb, ltb}
use Rattle.sha256.specs.Fips.{sha256}
use Rattle.apollo.specs.Size.{frame_size}
use Rattle.apollo.specs.Bytes.{same}
use Rattle.apollo.specs.Setup.{setup_of}
use Rattle.apollo.specs.Frame.{round, frames, frames_of, whole_frames, blame_form}
use Rattle.apollo.specs.Log.{attach}
use Rattle.apollo.specs.Enter.{State}
use Rattle.apollo.specs.Judging.{Verdict, judged_each}
use Rattle.apollo.specs.Outcome.{refused, taken}
use Rattle.apollo.specs.BlockRun.{last_of, blocks, judged_run}
use Rattle.apollo.specs.Branch.{first_uncertified, grown, placed, branched, branch_with}
use Rattle.apollo.specs.Blame.{one_set, any_fresh, heard, handing}
use Rattle.apollo.specs.Tick.{tick_with}
use Rattle.apollo.specs.Calls.{branch_call, tick_call}
use Rattle.apollo.specs.BenchSheet.{Callable, number}
use Rattle.apollo.proofs.Tests.{by_cond}
use Rattle.apollo.proofs.Fault.{each_number}
use Rattle.apollo.proofs.BlockRun.{run_number}
use Rattle.apollo.proofs.Judging.{passes, too_long, stale_branch, fresh_branch}

-- after 10 a branch is answered 0, 11, 12 or 13
placed_number : (P : ℕ → Type 0) → P 0 → P 11 → P 12 → P 13 → (entry out : List ℕ) (s : State) (x : List ℕ)
    (xs : List (List ℕ)) (a : Option ℕ) → P (number (placed sha256 entry out s x xs a))
unfolding placed refused taken
placed_number P p0 p11 p12 p13 entry out s x xs none = p11
placed_number P p0 p11 p12 p13 entry out s x xs (some a) =
    let c : ℕ = frame_size * s.replica.committed_round.0 in
    by_cond (λ o. P (number o)) (eqb (first_uncertified (setup_of s.replica) s.masks a (x ∷ xs)) 0)
    (λ _. by_cond (λ o. P (number o)) (same (take c (grown s.log a (x ∷ xs))) (take c s.log)) (λ _. p0) (λ _. p12))
    (λ _. p13)

module _ {s : State} {out : List ℕ} (c : Callable s out) (entry : List ℕ) (l : length entry ≤ 400) (x : List ℕ)
    (xs : List (List ℕ)) (three : s.replica.round.0 ≡ 3) (fit : length (x ∷ xs) ≤ s.replica.last_round.0)
    (good : blocks (setup_of s.replica) none (x ∷ xs) ≡ true) where
  pub ends_in_2 : round (last_of x xs) ≡ 2 → number (branch_call s (flatten (x ∷ xs)) entry out) ≡ 10
  unfolding refused
  ends_in_2 e = ap number (stale_branch c entry l x xs fit good (omega arith))

  pub ends_in_3 : round (last_of x xs) ≡ 3 → ¬ (number (branch_call s (flatten (x ∷ xs)) entry out) ≡ 10)
  ends_in_3 e =
      rw (fresh_branch c entry l x xs fit good (omega arith))
      (placed_number (λ k. ¬ (k ≡ 10)) (λ z. omega arith) (λ z. omega arith) (λ z. omega arith) (λ z. omega arith) entry out s x
      xs (attach s.log x (round x - 1)))

Not5 : ℕ → Type 0
Not5 k = ¬ (k ≡ 5)

branched_not_5 : (entry out : List ℕ) (s : State) (xs : List (List ℕ)) → Not5 (number (branched sha256 entry out s xs))
unfolding branched refused Not5
branched_not_5 entry out s [] = λ e. omega arith
branched_not_5 entry out s (x ∷ xs) =
    let all : Verdict = judged_run sha256 (setup_of s.replica) 0 none (x ∷ xs) in
    by_cond (λ o. Not5 (number o)) (eqb all.number 0)
    (λ _. by_cond (λ o. Not5 (number o)) (ltb (round (last_of x xs)) s.replica.round.0) (λ _ e. omega arith)
    (λ _. placed_number Not5 (λ e. omega arith) (λ e. omega arith) (λ e. omega arith) (λ e. omega arith) entry out s x xs
    (attach s.log x (round x - 1))))
    (λ _. run_number Not5 (λ e. omega arith) (λ e. omega arith) (λ e. omega arith) (λ e. omega arith) (setup_of s.replica) 0 none
    (x ∷ xs))

heard_not_5 : (entry out : List ℕ) (s : State) (xs : List (List ℕ)) → Not5 (number (heard sha256 entry out s xs))
unfolding heard refused taken Not5
heard_not_5 entry out s [] = λ e. omega arith
heard_not_5 entry out s (x ∷ xs) =
    by_cond (λ o. Not5 (number o)) (eqb (judged_each sha256 (blame_form (setup_of s.replica)) 0 (x ∷ xs)).number 0)
    (λ _. by_cond (λ o. Not5 (number o)) (one_set (round x) 0 (x ∷ xs))
    (λ _. by_cond (λ o. Not5 (number o)) (ltb s.replica.round.0 (round x)) (λ _ e. omega arith)
    (λ _. by_cond (λ o. Not5 (number o)) (any_fresh s.masks (x ∷ xs)) (λ _ e. omega arith) (λ _ e. omega arith)))
    (λ _ e. omega arith))
    (λ _. each_number Not5 (λ e. omega arith) (λ e. omega arith) (λ e. omega arith) sha256 (blame_form (setup_of s.replica)) 0 (x ∷ xs))

module _ {s : State} {out : List ℕ} (c : Callable s out) (bytes entry : List ℕ) where
  module _ (l : length entry ≡ 400) where
    pub branch_400 : ¬ (number (branch_call s bytes entry out) ≡ 5)
    unfolding branch_with refused Not5
    branch_400 =
        rw (passes c entry (omega arith) _)
        (by_cond (λ o. Not5 (number o)) (whole_frames s.replica.last_round.0 bytes)
        (λ _. branched_not_5 entry out s (frames (length bytes / frame_size) bytes)) (λ _ e. omega arith))

    -- a blame, and blames
    pub hand_400 : (most : ℕ) → ¬ (number (handing sha256 most s bytes entry out) ≡ 5)
    unfolding handing refused Not5
    hand_400 most =
        rw (passes c entry (omega arith) _)
        (by_cond (λ o. Not5 (number o)) (whole_frames most bytes) (λ _. heard_not_5 entry out s (frames_of bytes)) (λ _ e. omega arith))

    pub tick_400 : number (tick_call s entry out) ≡ 0
    unfolding tick_with taken
    tick_400 = ap number (passes c entry (omega arith) _)

  module _ (l : length entry ≡ 401) where
    pub branch_401 : number (branch_call s bytes entry out) ≡ 5
    unfolding branch_with refused
    branch_401 = ap number (too_long c entry (omega arith) _)

    pub hand_401 : (most : ℕ) → number (handing sha256 most s bytes entry out) ≡ 5
    unfolding handing refused
    hand_401 most = ap number (too_long c entry (omega arith) _)

    pub tick_401 : number (tick_call s entry out) ≡ 5
    unfolding tick_with refused
    tick_401 = ap number (too_long c entry (omega arith) _)
