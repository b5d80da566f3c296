-- Two frames judged with the record known to be valid: refusals 6, 7, 8 and 18, each with its place.
use Rattle.std.specs.Prelude.{List, [], ◌∷◌, cond, ℕ, eqb}
use Rattle.sha256.specs.Fips.{sha256}
use Rattle.apollo.specs.declared.Setup.{Setup}
use Rattle.apollo.specs.Frame.{block_form, first_frame}
use Rattle.apollo.specs.Judging.{Verdict, verdict, no_refusal, judged_each}
use Rattle.apollo.specs.Equivocation.{is_pair, second, conflicting}
use Rattle.apollo.specs.Refusal.{bad_length, not_equivocation}

-- 7 and 8 of both, then 18
unfoldable pub judged_two : Setup → (x y : List ℕ) → Verdict
judged_two s x y =
    let each : Verdict = judged_each sha256 (block_form s) 0 (x ∷ y ∷ []) in
    cond (eqb each.number 0) (cond (conflicting x y) no_refusal (verdict not_equivocation 0)) each

-- 6, and what follows it
unfoldable pub judged_pair : Setup → (bytes : List ℕ) → Verdict
judged_pair s bytes = cond (is_pair bytes) (judged_two s (first_frame bytes) (second bytes)) (verdict bad_length 0)
