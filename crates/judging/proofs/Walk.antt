-- Frames judged one by one. Assumes nothing.
use Rattle.std.proofs.Common.{◌≡◌, refl, ap, Bool, List, [], ◌∷◌, ℕ, zero, suc, ◌+◌, ◌/◌, length, drop, Result, Ok, Err}
use Rattle.std.proofs.Math.Option.{Option, some}
use Rattle.apollo.specs.Size.{frame_size}
use Rattle.apollo.specs.Frame.{frames, frames_of}
use borrow.Author.Tests.{eq-eqb, ne_eqb}
use Rattle.sha256.specs.Fips.{sha256}
use Rattle.apollo.specs.declared.Setup.{Setup}
use Rattle.apollo.specs.Judging.{Verdict, verdict, no_refusal, fault, judged_each}
use Rattle.apollo.specs.BlockRun.{judged_next, judged_run}
use Rattle.apollo.specs.declared.refusal.Refusal.{Refusal}
use Rattle.apollo.specs.Refused.{number, refusal_of}
use Rattle.apollo.proofs.Numbers.{refused_number, refused_some, taken_none}
use Rattle.judging.specs.Walk.{judged_by}

-- the frames fs, the first of which has index i, are to be judged behind p: the frame x, whose result is r, and then xs
module _ (told : Option (List ℕ) → List ℕ → ℕ) (i : ℕ) (p : Option (List ℕ)) (fs : List (List ℕ)) (goal : Verdict)
    (e : judged_by told i p fs ≡ goal) where
  module _ (x : List ℕ) (xs : List (List ℕ)) (q : fs ≡ x ∷ xs) {T : Type 0} (r : Result T Refusal)
      (d : refusal_of r ≡ told p x) where
    pub stop : (f : Refusal) → r ≡ Err f → verdict (number f) i ≡ goal
    unfolding judged_by
    stop f z = rw (refused_number r _ d f z) (rw (q, ne_eqb (told p x) 0 (refused_some r _ d f z)) at e)

    pub more : (u : T) → r ≡ Ok u → judged_by told (i + 1) (some x) xs ≡ goal
    unfolding judged_by
    more u z = rw (q, eq-eqb (told p x) 0 (taken_none r _ d u z)) at e

  pub done : fs ≡ [] → no_refusal ≡ goal
  unfolding judged_by
  done q = rw q at e

-- each by itself, and as a run
pub each_by : (form : List ℕ → Bool) (k : ℕ) (p : Option (List ℕ)) (xs : List (List ℕ))
    → judged_by (λ q x. fault sha256 form x) k p xs ≡ judged_each sha256 form k xs
unfolding judged_by judged_each
each_by form k p [] = refl
each_by form k p (x ∷ xs) = rw (each_by form (k + 1) (some x) xs)

pub run_by : (s : Setup) (k : ℕ) (p : Option (List ℕ)) (xs : List (List ℕ))
    → judged_by (judged_next sha256 s) k p xs ≡ judged_run sha256 s k p xs
unfolding judged_by judged_run
run_by s k p [] = refl
run_by s k p (x ∷ xs) = rw (run_by s (k + 1) (some x) xs)

-- as many frames as the bytes have room for
counted : (n : ℕ) (b : List ℕ) → length (frames n b) ≡ n
unfolding frames
counted zero b = refl
counted (suc n) b = ap suc (counted n (drop frame_size b))

pub frames_count : (b : List ℕ) → length (frames_of b) ≡ length b / frame_size
frames_count b = counted (length b / frame_size) b
