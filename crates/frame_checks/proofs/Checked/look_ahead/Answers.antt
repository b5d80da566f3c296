-- `frame_checks::Checked::look_ahead` keeps what the type says.
use Rattle.std.proofs.Common.{◌∙◌}
use Rattle.frame_checks.proofs.Ahead.{known_four}
use Rattle.frame_checks.proofs.Checked.look_ahead.Goals as goal

pub invariant_of-self : goal.invariant_of-self
invariant_of-self c = record { right = known_four _ _ (c.into_iter-self.ensures.into_iter_gives.0 ∙ c.check_ahead.ensures) }
