-- Document 01, "Refusals by number": frames judged each by itself, 7 and 8, lowest first.
use Rattle.std.specs.Prelude.{ℕ, ◌+◌, List, [], ◌∷◌, Bool, not, cond, eqb}
use Rattle.apollo.specs.Frame.{checked}
use Rattle.apollo.specs.Refusal.{bad_digest, bad_form}

-- a refusal's number and its place, and that there is none
pub record Verdict : Type 0 where
  pub number : ℕ
  pub place : ℕ

abbrev pub verdict : (number place : ℕ) → Verdict
verdict number place = record { number = number; place = place }

abbrev pub no_refusal : Verdict
no_refusal = verdict 0 0

module _ (hash : List ℕ → List ℕ) (form : List ℕ → Bool) where
  -- 7 and 8 of one frame that is to have that form
  unfoldable pub fault : List ℕ → ℕ
  fault x = cond (not (checked hash x)) bad_digest (cond (not (form x)) bad_form 0)

  -- 7 and 8 of frames, the first of which has index k
  unfoldable pub judged_each : (k : ℕ) → List (List ℕ) → Verdict
  judged_each k [] = no_refusal
  judged_each k (x ∷ xs) = cond (eqb (fault x) 0) (judged_each (k + 1) xs) (verdict (fault x) k)
