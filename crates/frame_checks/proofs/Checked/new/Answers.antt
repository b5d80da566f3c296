-- `frame_checks::Checked::new` meets its contract: chunks of a frame's length are the frames.
use Rattle.std.proofs.Common.{◌∙◌}
use Rattle.frame_checks.proofs.Ahead.{frames_cut, known_four}
use Rattle.frame_checks.proofs.Checked.new.Goals as goal

pub invariant_of-result : goal.invariant_of-result
invariant_of-result c = record { right = known_four _ _ (c.into_iter.ensures.into_iter_gives.0 ∙ c.check_ahead.ensures) }

pub returns : goal.returns
returns c = c.as_chunks.ensures.front ∙ frames_cut _ c.args.bytes.now
