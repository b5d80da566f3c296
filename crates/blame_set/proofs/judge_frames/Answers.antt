-- `blame_set::judge_frames` meets its contract. By 7 and 8, and what follows them.
use Rattle.std.proofs.Common.{refl, ap, sym}
use Rattle.std.proofs.lemmas.Result.{err_from_is_err_and}
use Rattle.apollo.specs.Judging.{Verdict}
use Rattle.apollo.proofs.Numbers.{number_some, refused_number, taken_none, refused_verdict, taken_verdict}
use Rattle.blame_set.proofs.Judge.{frames_faulty, frames_sound}
use Rattle.blame_set.proofs.Bits.{each_has_bit}
use Rattle.blame_set.proofs.judge_frames.Goals as goal

pub returns-in_err-judge_each : goal.returns-in_err-judge_each
returns-in_err-judge_each c =
    let p = err_from_is_err_and c.from_residual.result c.from_residual.ensures.1 in
    rw (p.1, p.2)
    (frames_faulty c.args.r c.args.masks.now c.args.frames.now _ c.into.ensures _
    (refused_verdict _ _ c.judge_each.ensures _ c.in_err-judge_each.was) (number_some c.in_err-judge_each.field-0.0.refusal))

pub judge_together-requires : goal.judge_together-requires
judge_together-requires c =
    each_has_bit _ (rw c.into.ensures c.requires.0) 0 _
    (ap (λ (v : Verdict). v.number) (sym (taken_verdict _ _ c.judge_each.ensures _ c.in_ok-judge_each.was)))

pub returns-in_err-judge_together : goal.returns-in_err-judge_together
returns-in_err-judge_together c =
    let p = err_from_is_err_and c.from_residual-in_err-judge_together.result c.from_residual-in_err-judge_together.ensures.1 in
    rw (p.1, p.2, refused_number _ _ refl _ c.in_err-judge_together.was)
    (frames_sound c.args.r c.args.masks.now c.args.frames.now _ c.into.ensures _
    (taken_verdict _ _ c.judge_each.ensures _ c.in_ok-judge_each.was) _ refl c.judge_together.ensures)

pub returns : goal.returns
returns c =
    let n = taken_none _ _ refl _ c.in_ok-judge_together.was in
    frames_sound c.args.r c.args.masks.now c.args.frames.now _ c.into.ensures _
    (taken_verdict _ _ c.judge_each.ensures _ c.in_ok-judge_each.was) _ refl (rw n at c.judge_together.ensures)
