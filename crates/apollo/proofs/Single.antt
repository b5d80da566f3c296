-- A blame is a set of one. Assumes nothing.
use Prim.Native.Nat.{ℕ}
use mathlib.Core.Path.{◌≡◌, refl, sym, ap, ◌∙◌}
use mathlib.Core.List.{List, [], ◌∷◌}
use mathlib.Core.Bool.{Bool, true, false, ◌&&◌, ◌||◌, not, cond}
use native.Mathlib.Omega.{arith}
use lib.ListN.{length}
use lib.Dec.{eqb}
use borrow.Author.Tests.{eqb-true, eqb-false, eq-eqb}
use Rattle.sha256.specs.Fips.{sha256}
use Rattle.apollo.specs.Size.{frame_size}
use Rattle.apollo.specs.Setup.{setup_of}
use Rattle.apollo.specs.Frame.{signer, round, frames_of, whole_frames, blame_form, checked}
use Rattle.apollo.specs.Masks.{bit, mask}
use Rattle.apollo.specs.Enter.{State, hearing}
use Rattle.apollo.specs.Judging.{Verdict, verdict, no_refusal, fault, judged_each}
use Rattle.apollo.specs.Outcome.{Outcome, refused, guarded}
use Rattle.apollo.specs.Blame.{one_set, any_fresh, add_blames, hearing_all, heard, handing}
use Rattle.apollo.specs.Calls.{blame_call, blames_call}
use Rattle.apollo.specs.Single.{one_blame, SetOfOne}
use Rattle.apollo.proofs.Tests.{both, cond_true}
use Rattle.apollo.proofs.Masks.{bit_zero}
use Rattle.apollo.proofs.Frames.{WholeFrames, whole_true, whole_one, frames_one}

-- one frame is of its own round, and no signer is twice
one_set_lem : (x : List ℕ) → one_set (round x) 0 (x ∷ []) ≡ true
unfolding one_set
one_set_lem x =
    both (eqb (round x) (round x) && not (bit (signer x) 0)) true
    (both (eqb (round x) (round x)) (not (bit (signer x) 0)) (eq-eqb (round x) (round x) refl) (ap not (bit_zero (signer x)))) refl

module _ (s : State) (out : List ℕ) where
  -- 7 and 8 of one frame, by its two tests
  judged_one : (a b : Bool) (o : Outcome) (v : Verdict) (k : ℕ) → k ≡ cond (not a) 7 (cond (not b) 8 0)
      → v ≡ cond (eqb k 0) no_refusal (verdict k 0)
      → cond (eqb v.number 0) o (refused s out v.number v.place)
      ≡ cond (not a) (refused s out 7 0) (cond (not b) (refused s out 8 0) o)
  judged_one true true o v k e d = rw (d, e)
  judged_one true false o v k e d = rw (d, e)
  judged_one false b o v k e d = rw (d, e)

  -- one bit, fresh or not
  fresh_one : (b : Bool) (o p : Outcome) → cond (not b || false) o p ≡ cond b p o
  fresh_one true o p = refl
  fresh_one false o p = refl

module _ (s : State) (x entry out : List ℕ) where
  heard_one : length x ≡ frame_size → heard sha256 entry out s (x ∷ []) ≡ one_blame s x entry out
  unfolding heard judged_each fault any_fresh hearing_all add_blames hearing one_blame
  heard_one l =
      let a : Bool = checked sha256 x in
      let b : Bool = blame_form (setup_of s.replica) x in
      let k : ℕ = cond (not a) 7 (cond (not b) 8 0) in
      judged_one s out a b _ (cond (eqb k 0) no_refusal (verdict k 0)) k refl refl
      ∙ rw (one_set_lem x, fresh_one s out (bit (signer x) (mask s.masks (round x))), eq-eqb (length x) frame_size l)

  pub blame_one : blame_call s x entry out ≡ guarded s entry out (one_blame s x entry out)
  unfolding handing
  blame_one = ap (guarded s entry out) (go (eqb (length x) frame_size) refl)
    where
      go : (z : Bool) → eqb (length x) frame_size ≡ z
          → cond (whole_frames 1 x) (heard sha256 entry out s (frames_of x)) (refused s out 6 0) ≡ one_blame s x entry out
      go true e =
          let l : length x ≡ frame_size = eqb-true (length x) frame_size e in
          cond_true _ _ (whole_one 1 x (omega arith) l) ∙ ap (heard sha256 entry out s) (frames_one x l) ∙ heard_one l
      go false e = cut (whole_frames 1 x) refl
        where
          cut : (w : Bool) → whole_frames 1 x ≡ w
              → cond w (heard sha256 entry out s (frames_of x)) (refused s out 6 0) ≡ one_blame s x entry out
          cut true h =
              let w : WholeFrames 1 x = whole_true 1 x h in
              let l : length x ≡ frame_size = omega (arith, w.even, w.some, w.few) in
              absurd (eqb-false (length x) frame_size e l)
          cut false h = unfold one_blame in sym (cond_true _ _ (ap not e))

  pub blames_one : length x ≡ frame_size → blames_call s x entry out ≡ blame_call s x entry out
  unfolding handing
  blames_one l =
      ap (guarded s entry out)
      (cond_true _ _ (whole_one 15 x (omega arith) l) ∙ sym (cond_true _ _ (whole_one 1 x (omega arith) l)))

pub set_of_one : SetOfOne
set_of_one = record { blame_is = blame_one; blames_is = blames_one }
