-- The premises of the bench sheet's item 3 can be met, by a state that calls make from open on. Assumes nothing.
use mathlib.Core.Path.{◌≡◌, refl, sym, ap, subst}
use mathlib.Core.List.{[]}
use native.Mathlib.Omega.{arith}
use Rattle.sha256.specs.Fips.{sha256}
use Rattle.apollo.specs.Frame.{make_blame}
use Rattle.apollo.specs.Enter.{State, hearing}
use Rattle.apollo.specs.Outcome.{state_of}
use Rattle.apollo.specs.Calls.{blame_call}
use Rattle.apollo.specs.BenchSheet.{Callable, Item3, chain_rounds}
use Rattle.apollo.proofs.BenchMade.{hears_at}
use Rattle.theorem_witness.proofs.Answers.{out, all, skipped_0}

-- Replica 0 has skipped round 2 and holds the blocks 1 and 3; then it hears replica 1's blame for round 4.
skipped_callable : Callable skipped_0 out
unfolding all skipped_0
skipped_callable = record { valid = refl; lent = refl; running = omega arith; room = omega arith }

pub blamed_4 : State
blamed_4 = state_of (blame_call skipped_0 (make_blame sha256 1 4) [] out)

blamed_is : blamed_4 ≡ hearing skipped_0 4 1
unfolding blamed_4 all skipped_0
blamed_is = ap state_of (hears_at skipped_callable [] (omega arith) 1 4 (omega arith) (omega arith) (omega arith) refl)

pub item_3_met : Item3 blamed_4 out
item_3_met =
    subst (λ s. Item3 s out) (sym blamed_is) (unfold all skipped_0 chain_rounds in record {
      callable = record { valid = refl; lent = refl; running = omega arith; room = omega arith };
      f = refl;
      awaited = refl;
      chain = refl;
      due = refl;
      certifies = refl;
    })
