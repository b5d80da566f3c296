-- `judging::judge_by` meets its contract. By a law for each way that a frame's judging goes.
use Rattle.std.proofs.Common.{◌<◌, ◌^◌, ap, arith, rules, length}
use Rattle.frame_checks.proofs.Ahead.{given_first, given_none}
use Rattle.judging.specs.Walk.{parent_of, judged_by}
use Rattle.judging.proofs.Walk.{stop, more, done, frames_count}
use Rattle.judging.proofs.judge_by.Goals as goal

pub loop-i-init : goal.loop-i-init
loop-i-init g c =
    rw (c.into_iter-i-iterator.ensures.into_iter_gives, c.enumerate-i-items.ensures.source, c.enumerate-i-items.ensures.count)
    record {
      place = omega (arith, ap length c.new.ensures);
      answer = λ number t. ap (judged_by number 0 (parent_of c.args.parent)) c.new.ensures;
    }

pub judge-requires : goal.judge-requires
judge-requires g c =
    let q = given_first _ _ _ _ c.in-Some.ensures.steps.0 in
    rw (q.1) (c.requires.judges c.loop-i.p c.in-Some.x)

pub overflow_cast-place : goal.overflow_cast-place
overflow_cast-place g c =
    let k = c.in-Some.ensures.steps in
    let q = given_first _ _ _ _ k.0 in
    let v = c.loop-i.invariant in
    let h : c.in-Some.i < 2 ^ 32 = omega (arith, k.1, ap length q.0, v.place, frames_count c.args.frames.now, c.requires.places) in
    search rules

pub returns-in-Err : goal.returns-in-Err
returns-in-Err g c =
    let k = c.in-Some.ensures.steps in
    let q = given_first _ _ _ _ k.0 in
    let v = c.loop-i.invariant in
    λ number t. rw (k.1) (stop number _ _ _ _ (v.answer number t) _ _ q.0 _ (t _ _ _ (rw q.1 at c.judge.ensures)) _ c.in-Err.is)

pub loop-i-preserved : goal.loop-i-preserved
loop-i-preserved g c =
    let k = c.in-Some.ensures.steps in
    let q = given_first _ _ _ _ k.0 in
    let v = c.loop-i.invariant in
    rw (k.2) record {
      place = omega (arith, ap length q.0, v.place);
      answer = λ number t. more number _ _ _ _ (v.answer number t) _ _ q.0 _ (t _ _ _ (rw q.1 at c.judge.ensures)) _ c.in_default.is;
    }

pub returns : goal.returns
returns g c =
    let q = given_none _ c.in-None.ensures.steps.0.0 in
    λ number t. done number _ _ _ _ (c.loop-i.invariant.answer number t) q
