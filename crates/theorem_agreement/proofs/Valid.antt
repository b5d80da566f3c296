-- A good state after a call meets no refusal 2. Assumes nothing.
use Prim.Native.Nat.{ℕ, ◌+◌, ◌*◌, ◌^◌, ◌≤◌, ◌<◌}
use mathlib.Core.Path.{◌≡◌, sym, ap, ◌∙◌, subst}
use mathlib.Core.List.{List}
use mathlib.Core.Bool.{true, ◌&&◌}
use native.Mathlib.Omega.{arith}
use borrow.Author.Tests.{eq-eqb}
use Rattle.apollo.specs.Size.{frame_size}
use Rattle.apollo.specs.declared.Setup.{Setup}
use Rattle.apollo.specs.Setup.{valid_rotation}
use Rattle.apollo.specs.Log.{slot}
use Rattle.apollo.specs.Replica.{valid_record, valid_log, valid_replica, valid_masks}
use Rattle.apollo.specs.Enter.{State}
use Rattle.apollo.proofs.Tests.{and-true, both}
use Rattle.apollo.proofs.Validity.{ValidOpening, Valid, valid_of}
use Rattle.theorem_agreement.specs.Run.{Event}
use Rattle.theorem_agreement.proofs.Chain.{held_level, rises}
use Rattle.theorem_agreement.proofs.Good.{Renewed, Rested, committed_held, setup_is, Good, committed_tip}

module _ (s : Setup) (past : List Event) (i : ℕ) (c : State) (g : Good s past i c) (rests : Rested c) where
  abbrev r : Renewed c.replica c.log
  r = rests.renewed

  tip_height : c.replica.tip_height.0 ≤ c.replica.tip_round.0
  tip_height =
      omega (arith, g.stored.level_is, held_level s.last_round.0 _ _ (slot c.log) _ g.stored.chain _ g.stored.chain.top)

  height_tip : c.replica.committed_height.0 ≤ c.replica.tip_height.0
  height_tip =
      omega (
        arith,
        g.stored.level_is,
        r.height_of_committed,
        rises s.last_round.0 _ _ (slot c.log) _ g.stored.chain _ _ (committed_tip s past i c g r) (committed_held r)
            g.stored.chain.top,
      )

  height_round : c.replica.committed_height.0 ≤ c.replica.committed_round.0
  height_round =
      omega (arith, r.height_of_committed, held_level s.last_round.0 _ _ (slot c.log) _ g.stored.chain _ (committed_held r))

  valid_opening : ValidOpening c.replica c.log
  valid_opening =
      record {
        f_least = g.fixed.f_one;
        f_most = g.fixed.f_top;
        id_below = g.fixed.id_low;
        timeout_least = g.fixed.timeout_one;
        timeout_most = g.fixed.timeout_top;
        last_least = g.fixed.last_one;
        last_most = g.fixed.last_top;
        size = g.stored.size ∙ ap (λ k. frame_size * k) (sym g.fixed.last_is);
      }

  valid_record_lem : Valid c.replica c.log
  valid_record_lem =
      record {
        setup = valid_opening;
        rotation = ap valid_rotation (setup_is s i c.replica g.fixed) ∙ g.fixed.turns;
        round_least = omega (arith, g.tip_below);
        round_most = omega (arith, g.reach, g.fixed.last_is);
        timer_most = g.timer_low;
        tip_below = g.tip_below;
        tip_height = tip_height;
        committed_most = committed_tip s past i c g r;
        committed_height_most = height_tip;
        height_of_committed = height_round;
        marks = subst (λ k. c.replica.equivocators < 2 ^ (2 * k + 1)) (sym g.fixed.f_is) g.marks_low;
        waits = rests.idle;
      }

  pub valid : (valid_replica c.replica c.log && valid_masks c.replica c.masks) ≡ true
  valid =
      both (valid_replica c.replica c.log) (valid_masks c.replica c.masks) (valid_of c.replica c.log valid_record_lem)
      (eq-eqb _ _ (g.masks_length ∙ sym g.fixed.last_is))

  -- and the record by itself
  pub valid_own_lem : valid_record c.replica ≡ true
  unfolding valid_replica
  valid_own_lem = (and-true (valid_record c.replica) (valid_log c.replica c.log) (valid_of c.replica c.log valid_record_lem)).0
