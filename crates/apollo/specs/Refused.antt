-- What the results of the code mean: a refusal's number, and the number and place of what refuses a call, 0 where nothing does.
use Rattle.std.specs.Prelude.{ℕ, Result, Ok, Err}
use Rattle.apollo.specs.declared.refusal.Refusal.{Refusal}
use Rattle.apollo.specs.declared.refusal.Refusal.TheVariants.{BadSetup, BadReplica, RoundsOver, OutTooShort, EntryTooLong, BadLength, BadDigest, BadForm, NotChild, Stale, Unattached, RevertsCommitted, NotCertified, Early, Absent, NotASet, BadRotation, NotEquivocation}
use Rattle.apollo.specs.declared.refusal.Refused.{Refused}
use Rattle.apollo.specs.Judging.{Verdict, verdict, no_refusal}
use Rattle.apollo.specs.Refusal.{bad_setup, bad_replica, rounds_over, out_too_short, entry_too_long, bad_length, bad_digest, bad_form, not_child, stale, unattached, reverts_committed, not_certified, early, absent, not_a_set, bad_rotation, not_equivocation}

abbrev pub number : Refusal → ℕ
number BadSetup = bad_setup
number BadReplica = bad_replica
number RoundsOver = rounds_over
number OutTooShort = out_too_short
number EntryTooLong = entry_too_long
number BadLength = bad_length
number BadDigest = bad_digest
number BadForm = bad_form
number NotChild = not_child
number Stale = stale
number Unattached = unattached
number RevertsCommitted = reverts_committed
number NotCertified = not_certified
number Early = early
number Absent = absent
number NotASet = not_a_set
number BadRotation = bad_rotation
number NotEquivocation = not_equivocation

-- a refusal that has no place of its own
abbrev pub whole : Refusal → Refused
whole e = record { refusal = e; place = 0 }

-- the number of the refusal, 0 if there is none
abbrev pub refusal_of : {T : Type 0} → Result T Refusal → ℕ
refusal_of (Ok x) = 0
refusal_of (Err e) = number e

-- the same with its place
abbrev pub verdict_of : {T : Type 0} → Result T Refused → Verdict
verdict_of (Ok x) = no_refusal
verdict_of (Err e) = verdict (number e.refusal) e.place
