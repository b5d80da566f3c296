-- Document 01, "Open", with a rotation (seating) by document 02, F-4.
use Rattle.std.specs.Prelude.{ℕ, ◌*◌, List, ◌&&◌, not, cond, length, eqb, ltb}
use Rattle.apollo.specs.Size.{entry_most, frame_size, out_least}
use Rattle.apollo.specs.declared.Replica.{Replica}
use Rattle.apollo.specs.Bytes.{zeros}
use Rattle.apollo.specs.Setup.{setup_number}
use Rattle.apollo.specs.Replica.{fresh, zero_replica, valid_own, valid_log, valid_masks}
use Rattle.apollo.specs.Enter.{State, enter_round}
use Rattle.apollo.specs.Outcome.{Outcome, refused, taken}
use Rattle.apollo.specs.Refusal.{bad_setup, out_too_short, entry_too_long}

module _ (hash : List ℕ → List ℕ) where
  -- open: 1 by own number, wait, log and masks, 1 and 17 by the set-up, 4 and 5; a refusal returns the record of zeros
  unfoldable pub open_with : (id f timeout last_round : ℕ) (rotation log masks entry out : List ℕ) → Outcome
  open_with id f timeout last_round rotation log masks entry out =
      let r : Replica = fresh id f timeout last_round rotation in
      let old : State = record { replica = zero_replica; log = log; masks = masks } in
      let new : State = record { replica = r; log = zeros (frame_size * last_round); masks = zeros last_round } in
      let number : ℕ = setup_number f last_round rotation in
      cond (not (valid_own r && valid_log r log && valid_masks r masks)) (refused old out bad_setup 0)
      (cond (not (eqb number 0)) (refused old out number 0)
      (cond (ltb (length out) out_least) (refused old out out_too_short 0)
      (cond (ltb entry_most (length entry)) (refused old out entry_too_long 0) (taken (enter_round hash entry new) out))))
