-- Both bounds are reached, by the first seven calls of the list that shows that demand 3's premises can hold. Assumes nothing.
use mathlib.Core.Path.{refl}
use Rattle.apollo.specs.Log.{slots_read}
use Rattle.theorem_witness.proofs.Answers.{all, skipped_0}
use Rattle.theorem_witness.proofs.Witness.{setup, correct, first_seven, seven_premises, seven_leave}
use Rattle.theorem_search_bounds.specs.Bounds.{certified_run, BoundsReached}

-- replica 0 has skipped round 2, its limit, and finds the block of round 1
pub bounds_reached : BoundsReached
unfolding all setup skipped_0 slots_read certified_run
bounds_reached =
    record {
      list = record { s = setup; correct = correct; calls = first_seven; premises = seven_premises };
      reader = record { i = 0; c = skipped_0; left = seven_leave.0 };
      f_one = refl;
      by_masks = refl;
      by_f = refl;
    }
