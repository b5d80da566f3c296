-- Each verdict on a run comes, in the list that shows that demand 3's premises can hold and in beginnings of it. Assumes nothing.
use Prim.Native.Nat.{ℕ}
use mathlib.Core.Path.{◌≡◌, refl}
use mathlib.Core.Logic.{inr, ◌≢◌}
use mathlib.Core.Option.{some}
use native.Mathlib.Omega.{arith}
use mathlib.Core.List.{List, [], ◌∷◌, ◌++◌, flatten}
use Rattle.apollo.specs.Enter.{State}
use Rattle.apollo.specs.Judging.{Verdict, verdict}
use Rattle.apollo.specs.Fetch.{above}
use Rattle.apollo.specs.Log.{chain}
use Rattle.apollo.specs.Outcome.{refused}
use Rattle.apollo.specs.Calls.{branch_call, blames_call}
use Rattle.apollo.specs.BenchSheet.{number}
use Rattle.theorem_agreement.specs.Run.{Call, start, run}
use Rattle.theorem_agreement.specs.Premises.{Premises}
use Rattle.theorem_witness.proofs.Frames.{b1, b3, b4, m0, m2, checked1, checked_m0, checked_m2}
use Rattle.theorem_witness.proofs.Answers.{out, all, opened_1, blaming_2, heard_0, skipped_0, skipped_2, last_0, last_2}
use Rattle.theorem_witness.proofs.Witness.{setup, correct, first_five, first_seven, first_eight, first_ten, five_premises, seven_premises, eight_premises, ten_premises, five_leave, seven_leave, eight_leave, ten_leave, had_waited}
use Rattle.theorem_catch_up.specs.CatchUp.{missing, received, beneath, Comes, VerdictsCome, TakenLater}

early_blames : number (blames_call opened_1 (m2 ++ m0) [] out) ≡ 14
unfolding all opened_1 refused
early_blames = rw (checked_m2, checked_m0) refl

first_taken : number (branch_call opened_1 (flatten (beneath 2 (b1 ∷ b3 ∷ []))) [] out) ≡ 0
unfolding all opened_1 beneath flatten
first_taken = rw checked1 refl

-- in the world of some calls
abbrev at : (es : List (ℕ × Call)) (p : Premises setup correct es) (i j : ℕ) (c d : State) → (run start es).states i ≡ some c
    → (run start es).states j ≡ some d → i ≢ j → (x : List ℕ) (ys : List (List ℕ)) → missing c d ≡ x ∷ ys → (v : Verdict)
    → received c c.replica.committed_round.0 x ys ≡ v → Comes v
at es p i j c d ec ed ne x ys m v e =
    record {
      list = record { s = setup; correct = correct; calls = es; premises = p };
      back = record { i = i; c = c; left = ec };
      other = record { i = j; c = d; left = ed };
      x = x;
      ys = ys;
      apart = ne;
      has = m;
      verdict_is = e;
    }

pub verdicts_come : VerdictsCome
unfolding setup all opened_1 blaming_2 heard_0 skipped_0 skipped_2 last_0 last_2 above chain received
verdicts_come =
    record {
      over = at first_ten ten_premises 0 2 last_0 last_2 ten_leave.0 ten_leave.1 (λ z. omega (arith, z)) b4 [] refl (verdict 3 0) refl;
      behind = at first_five five_premises 0 2 heard_0 blaming_2 five_leave.0 five_leave.1 (λ z. omega (arith, z)) b1 [] refl (verdict 10 0) refl;
      taken = at first_eight eight_premises 2 0 skipped_2 skipped_0 eight_leave.1 eight_leave.0 (λ z. omega (arith, z)) b3 [] refl (verdict 0 0) refl;
      waits = at first_seven seven_premises 2 0 blaming_2 skipped_0 seven_leave.2 seven_leave.0 (λ z. omega (arith, z)) b1 (b3 ∷ []) refl (verdict 13 2) refl;
      waits_for = refl;
      shared = record { from_committed = omega arith; held = inr refl; same = refl };
      uncommitted = refl;
      one_more = refl;
      far = at first_seven seven_premises 1 0 opened_1 skipped_0 seven_leave.1 seven_leave.0 (λ z. omega (arith, z)) b1 (b3 ∷ []) refl (verdict 13 2) refl;
      far_from = refl;
      f_one = refl;
      blames = m2 ++ m0;
      of_round = refl;
      two = refl;
      out = out;
      too_early = early_blames;
      below_taken = first_taken;
    }

-- replica 2 passes round 2 by the blames of the eighth call, and commits block 1; then blocks 1 and 3 go in again
pub taken_later : TakenLater
unfolding setup all blaming_2 skipped_0 skipped_2 above chain received
taken_later =
    record {
      list = record { s = setup; correct = correct; calls = first_eight; premises = eight_premises };
      back = record { i = 2; c = skipped_2; left = eight_leave.1 };
      other = record { i = 0; c = skipped_0; left = eight_leave.0 };
      before = blaming_2;
      had = had_waited;
      x = b1;
      ys = b3 ∷ [];
      apart = λ z. omega (arith, z);
      fetched = refl;
      waited = refl;
      more = omega arith;
      begins_low = omega arith;
      taken = refl;
    }
