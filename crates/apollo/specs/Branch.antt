-- Document 01, "Hand in a branch".
use Rattle.std.specs.Prelude.{ℕ, ◌-◌, ◌*◌, List, [], ◌∷◌, cond, take, eqb, ltb}
use Rattle.std.proofs.Math.Option.{Option, none, some}
use Rattle.apollo.specs.Size.{frame_size}
use Rattle.apollo.specs.Bytes.{same}
use Rattle.apollo.specs.declared.Setup.{Setup}
use Rattle.apollo.specs.Judging.{Verdict}
use Rattle.apollo.specs.Setup.{setup_of}
use Rattle.apollo.specs.Frame.{round, height, frames_of, whole_frames}
use Rattle.apollo.specs.Log.{store, clear_above, attach}
use Rattle.apollo.specs.Masks.{gap}
use Rattle.apollo.specs.Enter.{State, Effect, holding, enter_round}
use Rattle.apollo.specs.BlockRun.{last_of, judged_run}
use Rattle.apollo.specs.Outcome.{Outcome, refused, taken, guarded}
use Rattle.apollo.specs.Refusal.{bad_length, stale, unattached, reverts_committed, not_certified}

-- the first skipped round that is not certified, for frames on a parent in round lo; 0 if none
unfoldable pub first_uncertified : Setup → (masks : List ℕ) (lo : ℕ) → List (List ℕ) → ℕ
first_uncertified s masks lo [] = 0
first_uncertified s masks lo (x ∷ xs) =
    cond (eqb (gap s masks lo (round x - lo - 1)) 0) (first_uncertified s masks (round x) xs)
    (gap s masks lo (round x - lo - 1))

-- the log with each frame in the slot of its round
unfoldable pub store_all : (log : List ℕ) → List (List ℕ) → List ℕ
store_all log [] = log
store_all log (x ∷ xs) = store_all (store log (round x) x) xs

-- the log that taking these frames on round a makes
unfoldable pub grown : (log : List ℕ) (a : ℕ) → List (List ℕ) → List ℕ
grown log a xs = store_all (clear_above log a) xs

module _ (hash : List ℕ → List ℕ) where
  -- the branch is taken on round a
  unfoldable pub adopting : (entry : List ℕ) → State → (a : ℕ) (x : List ℕ) (xs : List (List ℕ)) → Effect
  adopting entry s a x xs =
      enter_round hash entry (holding s (grown s.log a (x ∷ xs)) (round (last_of x xs)) (height (last_of x xs)))

  -- 11, 13, 12, and taken, by where x attaches
  unfoldable pub placed : (entry out : List ℕ) → State → (x : List ℕ) (xs : List (List ℕ)) → Option ℕ → Outcome
  placed entry out s x xs none = refused s out unattached 0
  placed entry out s x xs (some a) =
      let committed : ℕ = frame_size * s.replica.committed_round.0 in
      cond (eqb (first_uncertified (setup_of s.replica) s.masks a (x ∷ xs)) 0)
      (cond (same (take committed (grown s.log a (x ∷ xs))) (take committed s.log))
      (taken (adopting entry s a x xs) out) (refused s out reverts_committed 0))
      (refused s out not_certified (first_uncertified (setup_of s.replica) s.masks a (x ∷ xs)))

  -- 7, 8, 9, 10, and what follows them
  unfoldable pub branched : (entry out : List ℕ) → State → List (List ℕ) → Outcome
  branched entry out s [] = refused s out bad_length 0
  branched entry out s (x ∷ xs) =
      let all : Verdict = judged_run hash (setup_of s.replica) 0 none (x ∷ xs) in
      cond (eqb all.number 0)
      (cond (ltb (round (last_of x xs)) s.replica.round.0) (refused s out stale 0)
      (placed entry out s x xs (attach s.log x (round x - 1))))
      (refused s out all.number all.place)

  -- hand in a branch
  unfoldable pub branch_with : State → (bytes entry out : List ℕ) → Outcome
  branch_with s bytes entry out =
      guarded s entry out
      (cond (whole_frames s.replica.last_round.0 bytes) (branched entry out s (frames_of bytes))
      (refused s out bad_length 0))
