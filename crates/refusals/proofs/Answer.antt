-- The calls by the number that refuses them. Assumes nothing.
use mathlib.Core.Path.{◌≡◌, refl, ap, ◌∙◌}
use mathlib.Core.Bool.{Bool, true, false, ◌&&◌, not, cond}
use mathlib.Core.List.{List}
use Prim.Native.Nat.{ℕ, ◌+◌, ◌*◌}
use lib.Dec.{eqb, ltb}
use lib.ListN.{length}
use Rattle.sha256.specs.Fips.{sha256}
use Rattle.apollo.specs.Size.{frame_size}
use Rattle.apollo.specs.declared.Replica.{Replica}
use Rattle.apollo.specs.Setup.{setup_of, setup_number}
use Rattle.apollo.specs.Bytes.{zeros}
use Rattle.apollo.specs.Judging.{Verdict, verdict}
use Rattle.apollo.specs.Replica.{fresh, zero_replica, valid_own, valid_log, valid_replica, valid_masks}
use Rattle.setup_ranges.specs.Number.{lent_number}
use Rattle.setup_ranges.proofs.Number.{lent_is}
use Rattle.apollo.specs.Enter.{State, enter_round}
use Rattle.apollo.specs.Outcome.{Outcome, refused, taken, guarded}
use Rattle.apollo.specs.Open.{open_with}
use Rattle.apollo.specs.Branch.{branch_with}
use Rattle.apollo.specs.Blame.{handing}
use Rattle.branch.specs.Judge.{Judged, refusal, judged_branch, answered}
use Rattle.branch.proofs.Answer.{branch_answer}
use Rattle.blame_set.specs.Set as Set
use Rattle.blame_set.specs.Set.{judged_set}
use Rattle.blame_set.proofs.Answer.{set_answer}
use Rattle.refusals.specs.Number.{room_number, open_number, guard_number, guard_of}
use Rattle.refusals.specs.Blames.{guarded_set}
use Rattle.refusals.specs.Branch.{guarded_branch}

-- what is answered by a number: o where it is 0
abbrev pub by_number : (n : ℕ) (o : Outcome) (f : ℕ → Outcome) → Outcome
by_number n o f = cond (eqb n 0) o (f n)

-- chains of tests, and the number of each
room_chain : (c d : Bool) (o : Outcome) (f : ℕ → Outcome) → cond c (f 4) (cond d (f 5) o) ≡ by_number (cond c 4 (cond d 5 0)) o f
room_chain true d o f = refl
room_chain false true o f = refl
room_chain false false o f = refl

-- n is the set-up's number
open_chain : (a : Bool) (n : ℕ) (z c d : Bool) (o : Outcome) (f : ℕ → Outcome) → eqb n 0 ≡ z
    → cond a (f 1) (cond (not z) (f n) (cond c (f 4) (cond d (f 5) o))) ≡ by_number (cond a 1 (cond (not z) n (cond c 4 (cond d 5 0)))) o f
open_chain true n z c d o f e = refl
open_chain false n true c d o f e = room_chain c d o f
open_chain false n false c d o f e = rw e

guard_chain : (a b c d : Bool) (o : Outcome) (f : ℕ → Outcome)
    → cond a (f 2) (cond b (f 3) (cond c (f 4) (cond d (f 5) o))) ≡ by_number (cond a 2 (cond b 3 (cond c 4 (cond d 5 0)))) o f
guard_chain true b c d o f = refl
guard_chain false true c d o f = refl
guard_chain false false true d o f = refl
guard_chain false false false true o f = refl
guard_chain false false false false o f = refl

-- a judgement after a number
judged_after : (entry out : List ℕ) (s : State) (x : List ℕ) (z : Bool) (n : ℕ) (j : Judged) → eqb n 0 ≡ z
    → cond z (answered entry out s x j) (refused s out n 0) ≡ answered entry out s x (cond z j (refusal n 0))
unfolding answered
judged_after entry out s x true n j e = refl
judged_after entry out s x false n j e = rw e

set_after : (entry out : List ℕ) (s : State) (x : List ℕ) (z : Bool) (n : ℕ) (v : Verdict) → eqb n 0 ≡ z
    → cond z (Set.answered entry out s x v) (refused s out n 0) ≡ Set.answered entry out s x (cond z v (verdict n 0))
unfolding Set.answered
set_after entry out s x true n v e = refl
set_after entry out s x false n v e = rw e

-- open
module _ (id f timeout last : ℕ) (rotation log masks entry out : List ℕ) where
  abbrev pub closed : State
  closed = record { replica = zero_replica; log = log; masks = masks }

  abbrev pub new : State
  new = record { replica = fresh id f timeout last rotation; log = zeros (frame_size * last); masks = zeros last }

  abbrev r : Replica
  r = fresh id f timeout last rotation

  setup_is : lent_number (setup_of r) (length rotation) ≡ setup_number f last rotation
  unfolding fresh
  setup_is = lent_is f last rotation

  pub open_by : open_with sha256 id f timeout last rotation log masks entry out
      ≡ by_number (open_number r (length rotation) log masks (length entry) (length out))
      (taken (enter_round sha256 entry new) out) (λ n. refused closed out n 0)
  unfolding open_with open_number room_number
  open_by =
      rw setup_is
      (open_chain (not (valid_own r && valid_log r log && valid_masks r masks)) (setup_number f last rotation)
      (eqb (setup_number f last rotation) 0) (ltb (length out) 1024) (ltb 400 (length entry)) (taken (enter_round sha256 entry new) out)
      (λ n. refused closed out n 0) refl)

module _ (s : State) (entry out : List ℕ) where
  abbrev number : ℕ
  number = guard_of s.replica s.log s.masks (length entry) (length out)

  -- branch, blame, blames and tick
  pub guarded_by : (o : Outcome) → guarded s entry out o ≡ by_number number o (λ n. refused s out n 0)
  unfolding guarded guard_number valid_replica room_number
  guarded_by o =
      guard_chain (not (valid_replica s.replica s.log && valid_masks s.replica s.masks))
      (eqb s.replica.round.0 (s.replica.last_round.0 + 1)) (ltb (length out) 1024) (ltb 400 (length entry)) o
      (λ n. refused s out n 0)

  module _ (x : List ℕ) where
    pub branch_by : branch_with sha256 s x entry out
        ≡ answered entry out s x (guarded_branch s.replica s.log s.masks x (length entry) (length out))
    unfolding guarded_branch
    branch_by =
        branch_answer s x entry out
        ∙ guarded_by (answered entry out s x (judged_branch s.replica s.log s.masks x))
        ∙ judged_after entry out s x (eqb number 0) number (judged_branch s.replica s.log s.masks x) refl

    pub set_by : (most : ℕ) → handing sha256 most s x entry out
        ≡ Set.answered entry out s x (guarded_set most s.replica s.log s.masks x (length entry) (length out))
    unfolding handing guarded_set
    set_by most =
        ap (guarded s entry out) (set_answer s x entry out most)
        ∙ guarded_by (Set.answered entry out s x (judged_set most s.replica s.masks x))
        ∙ set_after entry out s x (eqb number 0) number (judged_set most s.replica s.masks x) refl
