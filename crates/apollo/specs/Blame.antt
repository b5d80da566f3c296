-- Document 01, "Hand in a blame", and document 02, F-1, a set of blames. A blame is a set of one (`Single`).
use Rattle.std.specs.Prelude.{ℕ, List, [], ◌∷◌, Bool, true, false, ◌&&◌, ◌||◌, not, cond, eqb, ltb}
use Rattle.apollo.specs.Setup.{setup_of}
use Rattle.apollo.specs.Frame.{signer, round, frames_of, whole_frames, blame_form}
use Rattle.apollo.specs.Masks.{bit, set_bit, mask, add_blame}
use Rattle.apollo.specs.Enter.{State, settle}
use Rattle.apollo.specs.Judging.{Verdict, judged_each}
use Rattle.apollo.specs.Outcome.{Outcome, refused, taken, guarded}
use Rattle.apollo.specs.Refusal.{bad_length, stale, early, not_a_set}

-- each of round r, no signer twice, and none of those in the mask `before`
unfoldable pub one_set : (r before : ℕ) → List (List ℕ) → Bool
one_set r before [] = true
one_set r before (x ∷ xs) = eqb (round x) r && not (bit (signer x) before) && one_set r (set_bit (signer x) before) xs

-- some bit is fresh
unfoldable pub any_fresh : (masks : List ℕ) → List (List ℕ) → Bool
any_fresh masks [] = false
any_fresh masks (x ∷ xs) = not (bit (signer x) (mask masks (round x))) || any_fresh masks xs

-- the masks with all their bits; one that stands already stays
unfoldable pub add_blames : (masks : List ℕ) → List (List ℕ) → List ℕ
add_blames masks [] = masks
add_blames masks (x ∷ xs) = add_blames (add_blame masks (round x) (signer x)) xs

-- the state with all of them heard
unfoldable pub hearing_all : State → List (List ℕ) → State
hearing_all s xs = record { replica = s.replica; log = s.log; masks = add_blames s.masks xs }

module _ (hash : List ℕ → List ℕ) where
  -- 7 and 8 frame by frame, 16, 14, 10, and taken: all bits are set, then R is settled once
  unfoldable pub heard : (entry out : List ℕ) → State → List (List ℕ) → Outcome
  heard entry out s [] = refused s out bad_length 0
  heard entry out s (x ∷ xs) =
      let judged : Verdict = judged_each hash (blame_form (setup_of s.replica)) 0 (x ∷ xs) in
      cond (eqb judged.number 0)
      (cond (one_set (round x) 0 (x ∷ xs))
      (cond (ltb s.replica.round.0 (round x)) (refused s out early 0)
      (cond (any_fresh s.masks (x ∷ xs)) (taken (settle hash entry (hearing_all s (x ∷ xs)) (round x)) out)
      (refused s out stale 0)))
      (refused s out not_a_set 0))
      (refused s out judged.number judged.place)

  -- hand in 1 to `most` blames
  unfoldable pub handing : (most : ℕ) → State → (bytes entry out : List ℕ) → Outcome
  handing most s bytes entry out =
      guarded s entry out (cond (whole_frames most bytes) (heard entry out s (frames_of bytes)) (refused s out bad_length 0))

  -- hand in a blame, and a set of blames
  abbrev pub blame_with : State → (bytes entry out : List ℕ) → Outcome
  blame_with = handing 1

  abbrev pub blames_with : State → (bytes entry out : List ℕ) → Outcome
  blames_with = handing 15
