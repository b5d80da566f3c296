-- A refusal has a number other than 0, so a result is refused where its number is not. Assumes nothing.
use mathlib.Core.Path.{◌≡◌, sym, ap, ◌∙◌}
use Prim.Native.Nat.{ℕ}
use Rattle.std.specs.Prelude.{Result, Ok, Err}
use Rattle.apollo.specs.declared.refusal.Refusal.{Refusal}
use Rattle.apollo.specs.declared.refusal.Refusal.TheVariants.{BadSetup, BadReplica, RoundsOver, OutTooShort, EntryTooLong, BadLength, BadDigest, BadForm, NotChild, Stale, Unattached, RevertsCommitted, NotCertified, Early, Absent, NotASet, BadRotation, NotEquivocation}
use Rattle.apollo.specs.declared.refusal.Refused.{Refused}
use Rattle.apollo.specs.Judging.{Verdict, verdict, no_refusal}
use Rattle.apollo.specs.Refused.{number, refusal_of, verdict_of}

pub number_some : (e : Refusal) → number e ≡ 0 → ⊥
number_some BadSetup h = cc
number_some BadReplica h = cc
number_some RoundsOver h = cc
number_some OutTooShort h = cc
number_some EntryTooLong h = cc
number_some BadLength h = cc
number_some BadDigest h = cc
number_some BadForm h = cc
number_some NotChild h = cc
number_some Stale h = cc
number_some Unattached h = cc
number_some RevertsCommitted h = cc
number_some NotCertified h = cc
number_some Early h = cc
number_some Absent h = cc
number_some NotASet h = cc
number_some BadRotation h = cc
number_some NotEquivocation h = cc

-- a refused result has its refusal's number k, which is not 0
module _ {T : Type 0} (r : Result T Refusal) (k : ℕ) (d : refusal_of r ≡ k) where
  pub refused_number : (e : Refusal) → r ≡ Err e → number e ≡ k
  refused_number e h = sym (ap refusal_of h) ∙ d

  pub refused_some : (e : Refusal) → r ≡ Err e → k ≡ 0 → ⊥
  refused_some e h z = number_some e (refused_number e h ∙ z)

  pub taken_none : (x : T) → r ≡ Ok x → k ≡ 0
  taken_none x h = sym d ∙ ap refusal_of h

-- a refused result has its refusal's number and place, the verdict v, and a result that is not refused has none
module _ {T : Type 0} (r : Result T Refused) (v : Verdict) (d : verdict_of r ≡ v) where
  pub refused_verdict : (e : Refused) → r ≡ Err e → verdict (number e.refusal) e.place ≡ v
  refused_verdict e h = sym (ap verdict_of h) ∙ d

  pub taken_verdict : (x : T) → r ≡ Ok x → no_refusal ≡ v
  taken_verdict x h = sym (ap verdict_of h) ∙ d
