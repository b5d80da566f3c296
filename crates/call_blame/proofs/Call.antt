-- Blames behind their refusals. Assumes nothing.
use mathlib.Core.Path.{◌≡◌, sym, ◌∙◌}
use mathlib.Core.List.{List}
use Prim.Native.Nat.{ℕ, ◌≤◌}
use native.Mathlib.Omega.{arith}
use lib.ListN.{length}
use borrow.Author.Tests.{eq-eqb, ne_eqb}
use Rattle.sha256.specs.Fips.{sha256}
use Rattle.apollo.specs.declared.Replica.{Replica}
use Rattle.apollo.specs.declared.Answer.{Answer}
use Rattle.apollo.specs.Judging.{Verdict}
use Rattle.apollo.specs.Frame.{round, frames_of, first_frame}
use Rattle.apollo.specs.Enter.{settle, state}
use Rattle.apollo.specs.Outcome.{Outcome, refused, taken, outcome}
use Rattle.apollo.specs.Blame.{add_blames, hearing_all, handing}
use Rattle.blame_set.specs.Set.{HaveBits, answered}
use Rattle.refusals.specs.Blames.{guarded_set}
use Rattle.refusals.proofs.Passed.{Passed, set_passed}
use Rattle.refusals.proofs.Answer.{set_by}
use Rattle.tip.specs.Ready.{Ready}
use Rattle.calls.specs.Refused.{refused_answer}
use Rattle.calls.proofs.Answers.{passed_ready}

module _ (most : ℕ) (r : Replica) (log masks entry out x : List ℕ) (v : Verdict)
    (ev : v ≡ guarded_set most r log masks x (length entry) (length out)) where
  pub set_refused : (a : Answer) → (v.number ≡ 0 → ⊥) → a ≡ refused_answer r v.number v.place
      → outcome a log masks out ≡ handing sha256 most (state r log masks) x entry out
  unfolding answered refused
  set_refused a h ea = rw (set_by (state r log masks) entry out x most, ← ev, ne_eqb v.number 0 h, ea)

  module _ (z : v.number ≡ 0) where
    set_is_passed : Passed r log (length entry) (length out) × HaveBits (frames_of x)
    set_is_passed = set_passed r log masks (length entry) (length out) most x (rw ev at z)

    -- what adding and settling ask for
    pub set_has_bits : HaveBits (frames_of x)
    set_has_bits = set_is_passed.1

    pub set_asks : Ready r log entry out × (r.round.0 ≤ r.last_round.0)
    set_asks =
        let p = set_is_passed.0 in
        (passed_ready r log entry out p r.timer.0 out (omega (arith, p.out_room)), p.round_last)

    pub set_taken : (masks' f : List ℕ) (q : ℕ) (o : Outcome) → masks' ≡ add_blames masks (frames_of x) → f ≡ first_frame x → q ≡ round f
        → o ≡ taken (settle sha256 entry (state r log masks') q) out → o ≡ handing sha256 most (state r log masks) x entry out
    unfolding answered hearing_all
    set_taken masks' f q o em ef eq e =
        rw (em, eq, ef) at e ∙ sym (rw (set_by (state r log masks) entry out x most, ← ev, eq-eqb v.number 0 z))
