-- Frames judged one by one, by a function of the frame before them and themselves.
use Rattle.std.proofs.Math.Option as Maybe
use Rattle.std.specs.Prelude.{◌≡◌, List, [], ◌∷◌, ℕ, ◌+◌, Bool, cond, eqb, Option, None, Some, Result}
use Rattle.std.specs.Borrow.{Bor}
use Rattle.sha256.specs.Fips.{sha256}
use Rattle.apollo.specs.declared.refusal.Refusal.{Refusal}
use Rattle.apollo.specs.Frame.{checked}
use Rattle.apollo.specs.Judging.{Verdict, verdict, no_refusal}
use Rattle.apollo.specs.Refused.{refusal_of}

-- the bytes of a lent frame, if there is one
abbrev pub parent_of : Option (Bor (List ℕ)) → Maybe.Option (List ℕ)
parent_of None = Maybe.none
parent_of (Some p) = Maybe.some p.now

-- the verdict on frames, the first of which has index k and stands behind p, by the refusal's number of each behind the one before
unfoldable pub judged_by : (number : Maybe.Option (List ℕ) → List ℕ → ℕ) (k : ℕ) (p : Maybe.Option (List ℕ)) → List (List ℕ)
    → Verdict
judged_by number k p [] = no_refusal
judged_by number k p (x ∷ xs) = cond (eqb (number p x) 0) (judged_by number (k + 1) (Maybe.some x) xs) (verdict (number p x) k)

-- f, which is handed whether the frame's check is right, answers the refusal of that number
abbrev pub Tells : {F U : Type 0} → (F → Option (Bor (List ℕ)) → Bor (List ℕ) → Bool → Result U Refusal → Type 0) → F
    → (number : Maybe.Option (List ℕ) → List ℕ → ℕ) → Type 0
Tells post f number = (p : _) (x : _) (r : _) → post f p x (checked sha256 x.now) r → refusal_of r ≡ number (parent_of p) x.now
