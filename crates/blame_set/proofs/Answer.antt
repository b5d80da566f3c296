-- `handing` by way of `judged_set`: refusals 6, 7, 8, 16, 14 and 10 and what taking the set does. Assumes nothing.
use mathlib.Core.Path.{◌≡◌, refl}
use mathlib.Core.Bool.{Bool, true, false, cond}
use mathlib.Core.List.{List, ◌∷◌}
use Prim.Native.Nat.{ℕ, ◌-◌, ◌/◌, ◌≤◌}
use lib.Dec.{eqb, ltb}
use lib.ListN.{length, take, drop}
use native.Mathlib.Omega.{arith}
use Rattle.sha256.specs.Fips.{sha256}
use Rattle.apollo.specs.Size.{frame_size}
use Rattle.apollo.specs.declared.Replica.{Replica}
use Rattle.apollo.specs.Setup.{setup_of}
use Rattle.apollo.specs.Frame.{round, frames, frames_of, whole_frames, blame_form}
use Rattle.apollo.specs.Judging.{Verdict, verdict, no_refusal, judged_each}
use Rattle.apollo.specs.Blame.{one_set, any_fresh, hearing_all, heard}
use Rattle.apollo.specs.Enter.{State, settle}
use Rattle.apollo.specs.Outcome.{Outcome, refused, taken}
use Rattle.apollo.proofs.Frames.{whole_true, frames_split}
use Rattle.blame_set.specs.Set.{HaveBits, judged_together, judged_frames, judged_set, answered}
use Rattle.blame_set.proofs.Bits.{each_has_bit, none_second}

module _ (s : State) (out : List ℕ) (o : Outcome) where
  -- what is answered to a verdict: o where nothing refuses
  abbrev by_verdict : Verdict → Outcome
  by_verdict v = cond (eqb v.number 0) o (refused s out v.number v.place)

  chain : (z a b c : Bool) (v : Verdict) → eqb v.number 0 ≡ z
      → cond z (cond a (cond b (refused s out 14 0) (cond c o (refused s out 10 0))) (refused s out 16 0)) (refused s out v.number v.place)
      ≡ by_verdict (cond z (cond a (cond b (verdict 14 0) (cond c no_refusal (verdict 10 0))) (verdict 16 0)) v)
  chain true true true c v e = refl
  chain true true false true v e = refl
  chain true true false false v e = refl
  chain true false b c v e = refl
  chain false a b c v e = rw e

  one_of_two : (w : Bool) (p : Outcome) (v : Verdict) → (w ≡ true → p ≡ by_verdict v)
      → cond w p (refused s out 6 0) ≡ by_verdict (cond w v (verdict 6 0))
  one_of_two true p v h = h refl
  one_of_two false p v h = refl

module _ (s : State) (bytes entry out : List ℕ) where
  heard_answer : (n : ℕ) → 1 ≤ n → frames n bytes ≡ frames_of bytes
      → heard sha256 entry out s (frames n bytes) ≡ answered entry out s bytes (judged_frames s.replica s.masks bytes)
  unfolding heard judged_frames judged_together answered
  heard_answer n g f =
      let x : List ℕ = take frame_size bytes in
      let xs : List (List ℕ) = frames (n - 1) (drop frame_size bytes) in
      let split : frames n bytes ≡ x ∷ xs = frames_split n bytes (omega arith) in
      rw (← f, split)
      (chain s out (taken (settle sha256 entry (hearing_all s (x ∷ xs)) (round x)) out)
      (eqb (judged_each sha256 (blame_form (setup_of s.replica)) 0 (x ∷ xs)).number 0) (one_set (round x) 0 (x ∷ xs))
      (ltb s.replica.round.0 (round x)) (any_fresh s.masks (x ∷ xs)) (judged_each sha256 (blame_form (setup_of s.replica)) 0 (x ∷ xs)) refl)

  pub set_answer : (most : ℕ) → cond (whole_frames most bytes) (heard sha256 entry out s (frames_of bytes)) (refused s out 6 0)
      ≡ answered entry out s bytes (judged_set most s.replica s.masks bytes)
  unfolding judged_set answered
  set_answer most =
      one_of_two s out _ (whole_frames most bytes) (heard sha256 entry out s (frames_of bytes)) (judged_frames s.replica s.masks bytes)
      (λ w. heard_answer (length bytes / frame_size) (whole_true most bytes w).some refl)

-- the signers of a set that nothing refuses have bits
pub set_bits : (most : ℕ) (r : Replica) (masks bytes : List ℕ) → r.f ≤ 7 → (judged_set most r masks bytes).number ≡ 0
    → HaveBits (frames_of bytes)
unfolding judged_set judged_frames
set_bits most r masks bytes l e =
    let v : Verdict = judged_each sha256 (blame_form (setup_of r)) 0 (frames_of bytes) in
    each_has_bit (setup_of r) l 0 (frames_of bytes)
    (none_second (whole_frames most bytes) (eqb v.number 0) (judged_together r masks bytes) v refl e)
