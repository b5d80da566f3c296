-- `branch_call` by way of `judged_branch`: refusals 6 to 13 and what taking the branch does. Assumes nothing.
use mathlib.Core.Path.{◌≡◌, refl, ap, ◌∙◌}
use mathlib.Core.Bool.{Bool, true, false, ◌&&◌, not, cond}
use mathlib.Core.List.{List, ◌∷◌}
use mathlib.Core.Option.{Option, none, some}
use Prim.Native.Nat.{ℕ, ◌+◌, ◌-◌, ◌/◌, ◌%◌, ◌≤◌}
use native.Mathlib.Omega.{arith}
use lib.Dec.{eqb, ltb}
use lib.ListN.{length, take, drop}
use borrow.Author.Tests.{eqb-true}
use Rattle.sha256.specs.Fips.{sha256}
use Rattle.apollo.specs.Size.{frame_size}
use Rattle.apollo.specs.Setup.{setup_of}
use Rattle.apollo.specs.Frame.{round, frames, frames_of, first_frame, last_frame, whole_frames}
use Rattle.apollo.specs.Log.{attach}
use Rattle.apollo.specs.Replica.{valid_replica, valid_masks}
use Rattle.apollo.specs.Enter.{State, Effect}
use Rattle.apollo.specs.Outcome.{Outcome, refused, taken, guarded}
use Rattle.apollo.specs.BlockRun.{last_of, judged_run}
use Rattle.apollo.specs.Branch.{first_uncertified, adopting, placed, branched, branch_with}
use Rattle.branch_rounds.specs.Keeps.{keeps_all}
use Rattle.branch_links.specs.Ordered.{Ordered}
use Rattle.branch_links.proofs.Ordered.{ordered}
use Rattle.branch_rounds.proofs.Grown.{keeps_grown}
use Rattle.apollo.proofs.Validity.{Valid}
use Rattle.apollo.proofs.Validity.{valid}
use Rattle.branch.specs.Judge.{Judged, refusal, accepted, judged_on, judged_at, judged_whole, judged_branch, adopted, answered}
use Rattle.apollo.proofs.Frames.{WholeFrames, whole_true, frames_split}
use Rattle.branch.proofs.Frames.{last_is}

-- behind refusals 2 to 5 the record is in its ranges
behind : (v m : Bool) (w : Outcome) (f : Outcome → Outcome) (o p : Outcome) → (v ≡ true → o ≡ p) → cond (not (v && m)) w (f o) ≡ cond (not (v && m)) w (f p)
behind true true w f o p h = ap f (h refl)
behind true false w f o p h = refl
behind false m w f o p h = refl

guarded_same : (s : State) (entry out : List ℕ) (o p : Outcome) → (valid_replica s.replica s.log ≡ true → o ≡ p)
    → guarded s entry out o ≡ guarded s entry out p
unfolding guarded
guarded_same s entry out o p h =
    behind (valid_replica s.replica s.log) (valid_masks s.replica s.masks) (refused s out 2 0)
    (λ q. cond (eqb s.replica.round.0 (s.replica.last_round.0 + 1)) (refused s out 3 0)
    (cond (ltb (length out) 1024) (refused s out 4 0) (cond (ltb 400 (length entry)) (refused s out 5 0) q)))
    o p h

-- an answer to one of two or three judgements
one_of_two : (f : Judged → Outcome) (z : Bool) (i j : Judged) (o p : Outcome) → (z ≡ true → o ≡ f i) → p ≡ f j → cond z o p ≡ f (cond z i j)
one_of_two f true i j o p h g = h refl
one_of_two f false i j o p h g = g

one_of_three : (f : Judged → Outcome) (z l : Bool) (i j k : Judged) (o p q : Outcome) → (z ≡ true → o ≡ f i) → (z ≡ true → p ≡ f j)
    → (z ≡ false → q ≡ f k) → cond z (cond l o p) q ≡ f (cond z (cond l i j) k)
one_of_three f true true i j k o p q a b c = a refl
one_of_three f true false i j k o p q a b c = b refl
one_of_three f false l i j k o p q a b c = c refl

module _ (s : State) (bytes entry out x : List ℕ) (xs : List (List ℕ)) (split : frames_of bytes ≡ x ∷ xs) (first : first_frame bytes ≡ x)
    (last : last_frame bytes ≡ last_of x xs) (v : Valid s.replica s.log) where
  adopted_is : (a : ℕ) → adopting sha256 entry s a x xs ≡ adopted entry s a bytes
  unfolding adopted adopting
  adopted_is a = rw (split, last)

  on_answer : (a : ℕ) → Ordered s.replica.last_round.0 a (x ∷ xs)
      → placed sha256 entry out s x xs (some a) ≡ answered entry out s bytes (judged_on s.replica s.log s.masks bytes a)
  unfolding placed judged_on answered
  on_answer a o =
      let top : s.replica.committed_round.0 ≤ s.replica.last_round.0 = omega (arith, v.committed_most, v.tip_below, v.round_most) in
      rw (split, ← (keeps_grown s.replica.last_round.0 s.replica.committed_round.0 s.log v.setup.size top a (x ∷ xs) o))
      (one_of_three (answered entry out s bytes) (eqb (first_uncertified (setup_of s.replica) s.masks a (x ∷ xs)) 0)
      (keeps_all s.log a (x ∷ xs) s.replica.committed_round.0) (accepted a) (refusal 12 0)
      (refusal 13 (first_uncertified (setup_of s.replica) s.masks a (x ∷ xs)))
      (taken (adopting sha256 entry s a x xs) out) (refused s out 12 0)
      (refused s out 13 (first_uncertified (setup_of s.replica) s.masks a (x ∷ xs)))
      (λ z. ap (λ (e : Effect). taken e out) (adopted_is a)) (λ z. refl) (λ z. refl))

  module _ (order : (a : ℕ) → (judged_run sha256 (setup_of s.replica) 0 none (x ∷ xs)).number ≡ 0 → attach s.log x (round x - 1) ≡ some a
      → Ordered s.replica.last_round.0 a (x ∷ xs)) where
    at_answer : (q : Option ℕ) → attach s.log x (round x - 1) ≡ q → (judged_run sha256 (setup_of s.replica) 0 none (x ∷ xs)).number ≡ 0
        → placed sha256 entry out s x xs q ≡ answered entry out s bytes (judged_at s.replica s.log s.masks bytes q)
    unfolding placed judged_at answered
    at_answer none e n = refl
    at_answer (some a) e n = on_answer a (order a n e)

    whole_answer : branched sha256 entry out s (x ∷ xs) ≡ answered entry out s bytes (judged_whole s.replica s.log s.masks bytes)
    unfolding branched judged_whole answered
    whole_answer =
        rw (split, first, last)
        (one_of_three (answered entry out s bytes) (eqb (judged_run sha256 (setup_of s.replica) 0 none (x ∷ xs)).number 0)
        (ltb (round (last_of x xs)) s.replica.round.0) (refusal 10 0)
        (judged_at s.replica s.log s.masks bytes (attach s.log x (round x - 1)))
        (refusal (judged_run sha256 (setup_of s.replica) 0 none (x ∷ xs)).number (judged_run sha256 (setup_of s.replica) 0 none (x ∷ xs)).place)
        (refused s out 10 0) (placed sha256 entry out s x xs (attach s.log x (round x - 1)))
        (refused s out (judged_run sha256 (setup_of s.replica) 0 none (x ∷ xs)).number (judged_run sha256 (setup_of s.replica) 0 none (x ∷ xs)).place)
        (λ z. refl)
        (λ z. at_answer (attach s.log x (round x - 1)) refl (eqb-true _ 0 z))
        (λ z. rw z))

frames_answer : (s : State) (bytes entry out : List ℕ) → Valid s.replica s.log → WholeFrames s.replica.last_round.0 bytes
    → branched sha256 entry out s (frames_of bytes) ≡ answered entry out s bytes (judged_whole s.replica s.log s.masks bytes)
frames_answer s bytes entry out v w =
    let n : ℕ = length bytes / frame_size in
    let e : length bytes % frame_size ≡ 0 = w.even in
    let g : 1 ≤ length bytes / frame_size = w.some in
    let split : frames_of bytes ≡ take frame_size bytes ∷ frames (n - 1) (drop frame_size bytes) = frames_split n bytes g in
    let order : (a : ℕ) → (judged_run sha256 (setup_of s.replica) 0 none (take frame_size bytes ∷ frames (n - 1) (drop frame_size bytes))).number ≡ 0
    → attach s.log (take frame_size bytes) (round (take frame_size bytes) - 1) ≡ some a
    → Ordered s.replica.last_round.0 a (take frame_size bytes ∷ frames (n - 1) (drop frame_size bytes)) =
    λ a z h. rw (← split) (ordered (setup_of s.replica) s.log bytes n a g (omega arith) (rw split z) h) in
    ap (branched sha256 entry out s) split
    ∙ whole_answer s bytes entry out (take frame_size bytes) (frames (n - 1) (drop frame_size bytes)) split refl (last_is _ bytes w) v order

-- the call answers what the judgement says
pub branch_answer : (s : State) (bytes entry out : List ℕ)
    → branch_with sha256 s bytes entry out
    ≡ guarded s entry out (answered entry out s bytes (judged_branch s.replica s.log s.masks bytes))
unfolding branch_with judged_branch answered
branch_answer s bytes entry out =
    guarded_same s entry out _ _
    (λ v. one_of_two (answered entry out s bytes) (whole_frames s.replica.last_round.0 bytes)
    (judged_whole s.replica s.log s.masks bytes) (refusal 6 0) (branched sha256 entry out s (frames_of bytes)) (refused s out 6 0)
    (λ w. frames_answer s bytes entry out (valid s.replica s.log v) (whole_true s.replica.last_round.0 bytes w)) refl)
