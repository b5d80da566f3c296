-- A set of blames judged: refusals 6, 7, 8, 16, 14 and 10 in their order, each with its place, and what taking it does.
use Rattle.std.specs.Prelude.{ℕ, ◌<◌, List, [], ◌∷◌, cond, eqb, ltb}
use Rattle.sha256.specs.Fips.{sha256}
use Rattle.apollo.specs.declared.Replica.{Replica}
use Rattle.apollo.specs.Setup.{setup_of}
use Rattle.apollo.specs.Frame.{signer, round, frames_of, first_frame, whole_frames, blame_form}
use Rattle.apollo.specs.Judging.{Verdict, verdict, no_refusal, judged_each}
use Rattle.apollo.specs.Blame.{one_set, any_fresh, hearing_all}
use Rattle.apollo.specs.Enter.{State, settle}
use Rattle.apollo.specs.Outcome as Outcome
use Rattle.apollo.specs.Refusal.{bad_length, stale, early, not_a_set}

-- each signer has a bit in a mask of 16
abbrev pub HaveBits : List (List ℕ) → Type 0
HaveBits [] = Unit {0}
HaveBits (x ∷ xs) = (signer x < 16) × HaveBits xs

-- 16, 14 and 10 of frames that passed 7 and 8
unfoldable pub judged_together : Replica → (masks bytes : List ℕ) → Verdict
judged_together r masks bytes =
    cond (one_set (round (first_frame bytes)) 0 (frames_of bytes))
    (cond (ltb r.round.0 (round (first_frame bytes))) (verdict early 0)
    (cond (any_fresh masks (frames_of bytes)) no_refusal (verdict stale 0)))
    (verdict not_a_set 0)

-- 7 and 8, and what follows them
unfoldable pub judged_frames : Replica → (masks bytes : List ℕ) → Verdict
judged_frames r masks bytes =
    let each : Verdict = judged_each sha256 (blame_form (setup_of r)) 0 (frames_of bytes) in
    cond (eqb each.number 0) (judged_together r masks bytes) each

-- 6, and what follows it
unfoldable pub judged_set : (most : ℕ) → Replica → (masks bytes : List ℕ) → Verdict
judged_set most r masks bytes = cond (whole_frames most bytes) (judged_frames r masks bytes) (verdict bad_length 0)

-- what the call answers to a set so judged
unfoldable pub answered : (entry out : List ℕ) → State → (bytes : List ℕ) → Verdict → Outcome.Outcome
answered entry out s bytes v =
    cond (eqb v.number 0)
    (Outcome.taken (settle sha256 entry (hearing_all s (frames_of bytes)) (round (first_frame bytes))) out)
    (Outcome.refused s out v.number v.place)
