-- `branch_rounds::first_uncertified` meets its contract. By a law for each step of both walks.
use Rattle.std.proofs.Common.{◌∙◌, sym, arith}
use Rattle.branch_rounds.proofs.Walk.{gap_start, gap_passed, gap_met, gap_over, stop, next, end}
use Rattle.branch_rounds.proofs.first_uncertified.Goals as goal

pub loop-place-init : goal.loop-place-init
loop-place-init c = record {
  some = omega (arith, c.saturating_add-place.ensures);
  answer = gap_start _ _ _ _ _ c.saturating_add-place.ensures c.round-to.type_inv;
}

pub loop-place-preserved : goal.loop-place-preserved
loop-place-preserved c =
    let v = c.loop-place.invariant in
    record {
      some = omega arith;
      answer = gap_passed _ _ _ _ v.some c.loop-place-test.true (sym c.if-not-certified.ensures) _ v.answer;
    }

pub returns-then-not-certified : goal.returns-then-not-certified
returns-then-not-certified c =
    let k = c.in-Some.ensures.steps in
    let v = c.loop-x.invariant in
    let p = c.loop-place.invariant in
    stop _ _ _ _ _ v.answer _ _ k.1.0 (k.1.1 ∙ v.size) _ c.round-to.ensures _
    (gap_met _ _ _ _ p.some c.loop-place-test.true (sym c.if-not-certified.ensures) _ p.answer)

pub loop-x-preserved : goal.loop-x-preserved
loop-x-preserved c =
    let k = c.in-Some.ensures.steps in
    let v = c.loop-x.invariant in
    let p = c.loop-place.invariant in
    record {
      size = k.0 ∙ v.size;
      answer = next _ _ _ _ _ v.answer _ _ k.1.0 (k.1.1 ∙ v.size) _ c.round-to.ensures (gap_over _ _ _ _ p.some c.loop-place-test.false _ p.answer);
    }

pub returns-in-None : goal.returns-in-None
returns-in-None c =
    let v = c.loop-x.invariant in
    end _ _ _ _ _ v.answer (omega (arith, c.in-None.ensures.steps.1.0, v.size))
