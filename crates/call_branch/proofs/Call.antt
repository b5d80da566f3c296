-- A branch behind its refusals. Assumes nothing.
use mathlib.Core.Path.{◌≡◌, sym, ap, ◌∙◌}
use mathlib.Core.List.{List}
use Prim.Native.Nat.{ℕ, ◌*◌, ◌≤◌}
use native.Mathlib.Omega.{arith}
use lib.ListN.{length}
use borrow.Author.Tests.{eq-eqb, ne_eqb}
use Rattle.sha256.specs.Fips.{sha256}
use Rattle.apollo.specs.Size.{frame_size}
use Rattle.apollo.specs.declared.Replica.{Replica}
use Rattle.apollo.specs.declared.Answer.{Answer}
use Rattle.apollo.specs.Setup.{setup_of}
use Rattle.apollo.specs.Frame.{round, height, frames_of, last_frame}
use Rattle.apollo.specs.Enter.{State, tipped, holding, enter_round, state}
use Rattle.apollo.specs.Outcome.{Outcome, refused, taken, outcome}
use Rattle.apollo.specs.Branch.{grown, branch_with}
use Rattle.frame_forms.proofs.Facts.{BlockFields}
use Rattle.slots.specs.Slots.{Slotted}
use Rattle.branch.specs.Judge.{Judged, adopted, answered}
use Rattle.branch.proofs.Last.{branch_sound}
use Rattle.refusals.specs.Branch.{guarded_branch}
use Rattle.refusals.proofs.Passed.{Passed, branch_passed}
use Rattle.refusals.proofs.Answer.{branch_by}
use Rattle.tip.specs.Ready.{Ready}
use Rattle.calls.specs.Refused.{refused_answer}

module _ (r : Replica) (log masks entry out : List ℕ) where
  module _ (x : List ℕ) (j : Judged) (ej : j ≡ guarded_branch r log masks x (length entry) (length out)) where
    pub branch_refused : (a : Answer) → (j.number ≡ 0 → ⊥) → a ≡ refused_answer r j.number j.place
        → outcome a log masks out ≡ branch_with sha256 (state r log masks) x entry out
    unfolding answered refused
    branch_refused a h ea = rw (branch_by (state r log masks) entry out x, ← ej, ne_eqb j.number 0 h, ea)

    module _ (z : j.number ≡ 0) where
      branch_facts : Passed r log (length entry) (length out) × Slotted (frame_size * r.last_round.0) (frames_of x) × BlockFields (setup_of r) (last_frame x)
      branch_facts =
          let w = branch_passed r log masks (length entry) (length out) x (ap (λ (i : Judged). i.number) (sym ej) ∙ z) in
          let b = branch_sound r log masks x w.1 in
          (w.0, b.0, b.1)

      -- what adopting asks for
      pub adopt_asks : Slotted (length log) (frames_of x) × (round (last_frame x) ≤ 4096)
      adopt_asks =
          let w = branch_facts in
          (rw w.0.valid.setup.size w.1, omega (arith, w.2.round_high, w.0.valid.setup.last_most))

      module _ (log' : List ℕ) (q : Replica)
          (p : (m : List ℕ) → state q log' m ≡ holding (state r log m) (grown log j.attach (frames_of x)) (round (last_frame x)) (height (last_frame x))) where
        pub adopt_ready : length log' ≡ length log → Ready q log' entry out
        unfolding holding tipped
        adopt_ready l =
            let w = branch_facts in
            let v = w.0.valid.setup in
            rw (ap (λ (s : State). s.replica) (p masks))
            (record {
              f_most = v.f_most;
              last_most = v.last_most;
              size = l ∙ v.size;
              round_most = omega (arith, w.2.round_high);
              tip_below = omega arith;
              tip_height = w.2.height_high;
              out_room = omega (arith, w.0.out_room);
              entry_room = w.0.entry_room;
            })

        pub branch_taken : (o : Outcome) → o ≡ taken (enter_round sha256 entry (state q log' masks)) out
            → o ≡ branch_with sha256 (state r log masks) x entry out
        unfolding answered adopted
        branch_taken o e = rw (branch_by (state r log masks) entry out x, ← ej, eq-eqb j.number 0 z) (rw (p masks) at e)
