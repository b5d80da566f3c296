-- `frame_checks::Checked` gives the first frame that is left, with its check.
use Rattle.std.proofs.Common.{◌∙◌}
use Rattle.frame_checks.proofs.Ahead.{turn, known_next}
use Rattle.frame_checks.proofs.CheckedIterator.next.Goals as goal

pub invariant_of-self : goal.invariant_of-self
invariant_of-self c =
    let e = c.look_ahead.ensures.0 ∙ c.in_ok-x.ensures.cases.0 in
    record { right = known_next _ _ _ _ _ _ c.look_ahead.new.self.right (rw c.unwrap-checked.ensures at c.next.ensures.steps) e }

pub returns-clause-steps : goal.returns-clause-steps
returns-clause-steps c =
    let e = c.look_ahead.ensures.0 ∙ c.in_ok-x.ensures.cases.0 in
    rw (c.look_ahead.ensures.0) at (turn _ _ _ _ _ _ c.look_ahead.new.self.right (rw c.unwrap-checked.ensures at c.next.ensures.steps) e)
