-- A branch judged: refusals 6 to 13 in their order, each with its place, and what taking it does.
use Rattle.std.specs.Prelude.{ℕ, ◌-◌, List, cond, eqb, ltb, Result, Ok, Err}
use Rattle.std.proofs.Math.Option.{Option, none, some}
use Rattle.sha256.specs.Fips.{sha256}
use Rattle.apollo.specs.declared.Replica.{Replica}
use Rattle.apollo.specs.Setup.{setup_of}
use Rattle.apollo.specs.Frame.{round, height, frames_of, first_frame, last_frame, whole_frames}
use Rattle.apollo.specs.Log.{attach}
use Rattle.apollo.specs.Enter.{State, Effect, holding, enter_round}
use Rattle.apollo.specs.Outcome as Outcome
use Rattle.apollo.specs.Judging.{Verdict}
use Rattle.apollo.specs.declared.refusal.Refused.{Refused}
use Rattle.apollo.specs.Refused.{number}
use Rattle.apollo.specs.BlockRun.{judged_run}
use Rattle.apollo.specs.Branch.{first_uncertified, grown}
use Rattle.apollo.specs.Refusal.{bad_length, stale, unattached, reverts_committed, not_certified}
use Rattle.branch_rounds.specs.Keeps.{keeps_all}

-- a refusal's number and its place, 0 and 0 if there is none, and then the round that the branch attaches to
pub record Judged : Type 0 where
  pub number : ℕ
  pub place : ℕ
  pub attach : ℕ

-- refused with a number and a place; accepted on round a
abbrev pub refusal : (number place : ℕ) → Judged
refusal number place = record { number = number; place = place; attach = 0 }

abbrev pub accepted : (a : ℕ) → Judged
accepted a = record { number = 0; place = 0; attach = a }

-- what the code's result means
abbrev pub judged_of : Result ℕ Refused → Judged
judged_of (Ok a) = accepted a
judged_of (Err e) = refusal (number e.refusal) e.place

-- 13 and 12 of a branch on round a
unfoldable pub judged_on : Replica → (log masks bytes : List ℕ) (a : ℕ) → Judged
judged_on r log masks bytes a =
    let gap : ℕ = first_uncertified (setup_of r) masks a (frames_of bytes) in
    cond (eqb gap 0)
    (cond (keeps_all log a (frames_of bytes) r.committed_round.0) (accepted a) (refusal reverts_committed 0))
    (refusal not_certified gap)

-- 11, 13 and 12, by where the first frame attaches
unfoldable pub judged_at : Replica → (log masks bytes : List ℕ) → Option ℕ → Judged
judged_at r log masks bytes none = refusal unattached 0
judged_at r log masks bytes (some a) = judged_on r log masks bytes a

-- the same where it does attach
abbrev pub judged_first : Replica → (log masks bytes : List ℕ) → Judged
judged_first r log masks bytes =
    judged_at r log masks bytes (attach log (first_frame bytes) (round (first_frame bytes) - 1))

-- 7, 8, 9 and 10, and what follows them
unfoldable pub judged_whole : Replica → (log masks bytes : List ℕ) → Judged
judged_whole r log masks bytes =
    let verdict : Verdict = judged_run sha256 (setup_of r) 0 none (frames_of bytes) in
    cond (eqb verdict.number 0)
    (cond (ltb (round (last_frame bytes)) r.round.0) (refusal stale 0)
    (judged_first r log masks bytes))
    (refusal verdict.number verdict.place)

-- 6 to 13
unfoldable pub judged_branch : Replica → (log masks bytes : List ℕ) → Judged
judged_branch r log masks bytes =
    cond (whole_frames r.last_round.0 bytes) (judged_whole r log masks bytes) (refusal bad_length 0)

-- the branch is taken on round a: its frames stored, the last the tip, and the next round entered
unfoldable pub adopted : (entry : List ℕ) → State → (a : ℕ) (bytes : List ℕ) → Effect
adopted entry s a bytes =
    enter_round sha256 entry
    (holding s (grown s.log a (frames_of bytes)) (round (last_frame bytes)) (height (last_frame bytes)))

-- what the call answers to a branch so judged
unfoldable pub answered : (entry out : List ℕ) → State → (bytes : List ℕ) → Judged → Outcome.Outcome
answered entry out s bytes j =
    cond (eqb j.number 0) (Outcome.taken (adopted entry s j.attach bytes) out)
    (Outcome.refused s out j.number j.place)
