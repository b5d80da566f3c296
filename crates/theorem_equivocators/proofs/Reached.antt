-- A list that meets the premises and leaves a card marked. Assumes nothing.
use mathlib.Core.Path.{refl}
use Rattle.apollo.specs.Masks.{bit}
use Rattle.theorem_witness.proofs.Answers.{marked_0}
use Rattle.theorem_witness.proofs.Witness.{setup, correct, calls, premises, all_leave}
use Rattle.theorem_equivocators.specs.Marks.{MarksCome}

pub marks_come : MarksCome
unfolding bit marked_0 correct
marks_come =
    record {
      list = record { s = setup; correct = correct; calls = calls; premises = premises };
      by = record { i = 0; c = marked_0; left = all_leave.0 };
      card = 1;
      sound = refl;
      marked = refl;
    }
