-- A call's answer by its refusal, and what a call that is not refused may presume. Assumes nothing.
use mathlib.Core.Path.{◌≡◌}
use mathlib.Core.List.{List}
use Prim.Native.Nat.{ℕ, ◌≤◌}
use lib.ListN.{length}
use borrow.Author.Tests.{eq-eqb, ne_eqb}
use Rattle.apollo.specs.Size.{frame_size}
use Rattle.apollo.specs.declared.Replica.{Replica}
use Rattle.apollo.specs.declared.Answer.{Answer}
use Rattle.apollo.specs.Replica.{with_timer}
use Rattle.apollo.specs.Enter.{State}
use Rattle.apollo.specs.Outcome.{Outcome, refused, outcome}
use Rattle.refusals.proofs.Passed.{Passed}
use Rattle.refusals.proofs.Answer.{by_number}
use Rattle.tip.specs.Ready.{Ready}
use Rattle.calls.specs.Refused.{refused_answer}

-- a call's answer by the number that refuses it, for any number n that is m
module _ (s : State) (out : List ℕ) (m : ℕ) (o : Outcome) (n : ℕ) (e : n ≡ m) where
  pub refused_by : (a : Answer) → (n ≡ 0 → ⊥) → a ≡ refused_answer s.replica n 0
      → outcome a s.log s.masks out ≡ by_number m o (λ k. refused s out k 0)
  unfolding refused
  refused_by a h ea = rw (← e, ne_eqb n 0 h, ea)

  pub taken_by : n ≡ 0 → o ≡ by_number m o (λ k. refused s out k 0)
  taken_by z = rw (← e, eq-eqb n 0 z)

module _ (r : Replica) (log entry out : List ℕ) where
  pub passed_ready : Passed r log (length entry) (length out) → (t : ℕ) (y : List ℕ) → frame_size ≤ length y → Ready (with_timer r t) log entry y
  passed_ready p t y h =
      let v = p.valid in
      record {
        f_most = v.setup.f_most;
        last_most = v.setup.last_most;
        size = v.setup.size;
        round_most = v.round_most;
        tip_below = v.tip_below;
        tip_height = v.tip_height;
        out_room = h;
        entry_room = p.entry_room;
      }
