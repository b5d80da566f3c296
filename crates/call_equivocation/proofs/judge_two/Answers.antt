-- `call_equivocation::judge_two` meets its contract: each frame, then both together.
use Rattle.std.proofs.Common.{refl}
use Rattle.std.proofs.lemmas.Result.{err_from_is_err_and}
use Rattle.apollo.proofs.Numbers.{number_some, refused_verdict, taken_verdict}
use Rattle.call_equivocation.proofs.Each.{first_faulty, second_faulty, two_alike, two_conflicting}
use Rattle.call_equivocation.proofs.judge_two.Goals as goal

pub returns-in_err-fault_at : goal.returns-in_err-fault_at
returns-in_err-fault_at c =
    let p = err_from_is_err_and c.from_residual.result c.from_residual.ensures.1 in
    rw (p.1, p.2)
    (first_faulty _ c.args.frames.now _ _ c.part-first.ensures c.part-second.ensures _
    (refused_verdict _ _ c.fault_at.ensures _ c.in_err-fault_at.was) (number_some c.in_err-fault_at.field-0.0.refusal))

pub returns-in_err-fault_at-2 : goal.returns-in_err-fault_at-2
returns-in_err-fault_at-2 c =
    let p = err_from_is_err_and c.from_residual-in_err-fault_at-2.result c.from_residual-in_err-fault_at-2.ensures.1 in
    rw (p.1, p.2)
    (second_faulty _ c.args.frames.now _ _ c.part-first.ensures c.part-second.ensures _ (taken_verdict _ _ c.fault_at.ensures _ c.in_ok-fault_at.was)
    refl _ (refused_verdict _ _ c.fault_at-2.ensures _ c.in_err-fault_at-2.was) (number_some c.in_err-fault_at-2.field-0.0.refusal))

pub returns-then-not-is_conflicting : goal.returns-then-not-is_conflicting
returns-then-not-is_conflicting c =
    rw c.into.ensures
    (two_alike _ c.args.frames.now _ _ c.part-first.ensures c.part-second.ensures _ (taken_verdict _ _ c.fault_at.ensures _ c.in_ok-fault_at.was)
    refl _ (taken_verdict _ _ c.fault_at-2.ensures _ c.in_ok-fault_at-2.was) refl _ c.is_conflicting.ensures c.if-not-is_conflicting.true)

pub returns : goal.returns
returns c =
    two_conflicting _ c.args.frames.now _ _ c.part-first.ensures c.part-second.ensures _ (taken_verdict _ _ c.fault_at.ensures _ c.in_ok-fault_at.was)
    refl _ (taken_verdict _ _ c.fault_at-2.ensures _ c.in_ok-fault_at-2.was) refl _ c.is_conflicting.ensures c.if-not-is_conflicting.false
