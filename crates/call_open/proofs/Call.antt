-- Open behind its refusals. Assumes nothing.
use mathlib.Core.Path.{◌≡◌, sym, ap, ◌∙◌}
use mathlib.Core.List.{List}
use Prim.Native.Nat.{ℕ, ◌*◌}
use native.Mathlib.Omega.{arith}
use lib.ListN.{length}
use Rattle.sha256.specs.Fips.{sha256}
use Rattle.apollo.specs.Size.{frame_size}
use Rattle.apollo.specs.declared.Replica.{Replica}
use Rattle.apollo.specs.declared.Answer.{Answer}
use Rattle.apollo.specs.Bytes.{zeros}
use Rattle.apollo.specs.Replica.{fresh, zero_replica}
use Rattle.apollo.specs.Enter.{enter_round, state}
use Rattle.apollo.specs.Outcome.{Outcome, taken, outcome}
use Rattle.apollo.specs.Open.{open_with}
use Rattle.apollo.proofs.Slots.{length_zeros}
use Rattle.refusals.specs.Number.{open_number}
use Rattle.refusals.proofs.Passed.{Opened, opened}
use Rattle.refusals.proofs.Answer.{open_by}
use Rattle.tip.specs.Ready.{Ready}
use Rattle.calls.specs.Refused.{refused_answer}
use Rattle.calls.proofs.Answers.{refused_by, taken_by}

module _ (id f timeout last : ℕ) (rotation log masks entry out : List ℕ) (r : Replica) (er : r ≡ fresh id f timeout last rotation) (n : ℕ)
    (en : n ≡ open_number r (length rotation) log masks (length entry) (length out)) where
  number_is : n ≡ open_number (fresh id f timeout last rotation) (length rotation) log masks (length entry) (length out)
  number_is = rw er at en

  pub open_refused : (z : Replica) (a : Answer) → (n ≡ 0 → ⊥) → z ≡ zero_replica → a ≡ refused_answer z n 0
      → outcome a log masks out ≡ open_with sha256 id f timeout last rotation log masks entry out
  open_refused z a h ez ea =
      refused_by (state zero_replica log masks) out _ _ n number_is a h (ea ∙ ap (λ (x : Replica). refused_answer x n 0) ez)
      ∙ sym (open_by id f timeout last rotation log masks entry out)

  -- the log and the masks that open leaves
  module _ (z : n ≡ 0) (log' : List ℕ) (el : log' ≡ zeros (length log)) where
    passed_open : Opened r log masks (length entry) (length out)
    passed_open = opened r log masks (length entry) (length out) (length rotation) (sym en ∙ z)

    last_is : r.last_round.0 ≡ last
    unfolding fresh
    last_is = ap (λ (x : Replica). x.last_round.0) er

    log_is : log' ≡ zeros (frame_size * last)
    log_is = el ∙ ap zeros (passed_open.valid.size ∙ ap (λ (k : ℕ). frame_size * k) last_is)

    pub open_ready : Ready r log' entry out
    unfolding fresh
    open_ready =
        let g : Opened r log masks (length entry) (length out) = passed_open in
        let a : r.round.0 ≡ 1 = ap (λ (x : Replica). x.round.0) er in
        let b : r.tip_round.0 ≡ 0 = ap (λ (x : Replica). x.tip_round.0) er in
        let c : r.tip_height.0 ≡ 0 = ap (λ (x : Replica). x.tip_height.0) er in
        record {
          f_most = g.valid.f_most;
          last_most = g.valid.last_most;
          size = ap length el ∙ length_zeros (length log) ∙ g.valid.size;
          round_most = omega arith;
          tip_below = omega arith;
          tip_height = omega arith;
          out_room = omega arith;
          entry_room = g.entry_room;
        }

    pub open_taken : (masks' : List ℕ) (o : Outcome) → masks' ≡ zeros (length masks)
        → o ≡ taken (enter_round sha256 entry (state r log' masks')) out
        → o ≡ open_with sha256 id f timeout last rotation log masks entry out
    open_taken masks' o em h =
        let m : masks' ≡ zeros last = em ∙ ap zeros (passed_open.masks_size ∙ last_is) in
        rw (m, log_is, er) at h
        ∙ taken_by (state zero_replica log masks) out _ _ n number_is z
        ∙ sym (open_by id f timeout last rotation log masks entry out)
