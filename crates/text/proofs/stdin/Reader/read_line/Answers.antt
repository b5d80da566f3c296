-- `Reader::read_line` meets its contract. By what `next` takes, byte by byte. Assumes nothing.
use Rattle.std.proofs.Common.{◌≡◌, ◌≢◌, refl, Bool, true, false, not, List, [], ◌∷◌, ℕ, ◌==◌, length, None, Some}
use Rattle.std.proofs.Math.Dec.{eqb-suc-zero}
use Rattle.std.specs.Bool.{then_some}
use Rattle.std.proofs.KnownBytes.{Consumes-nil, Consumes-trans}
use Rattle.std.proofs.lemmas.List.Elements.{All-push, All-nil}
use Rattle.text.specs.declared.stdin.End.TheVariants.{Input}
use Rattle.text.specs.Reading.{ending}
use Rattle.text.proofs.stdin.Reader.read_line.Goals as goal
use Rattle.text.proofs.stdin.Reader.read_line.Goals.{else-loop-test, then-loop-test+in-None}

no_ending : (b : Bool) → ending (then_some b Input) ≡ []
no_ending true = refl
no_ending false = refl

none_left : (xs : List ℕ) → then_some (not (length xs == 0)) Input ≡ None → xs ≡ []
none_left [] e = refl
none_left (x ∷ xs) e = cc (eqb-suc-zero (length xs))

some_left : (xs : List ℕ) → then_some (not (length xs == 0)) Input ≡ Some Input → xs ≢ []
some_left [] e = cc
some_left (x ∷ xs) e = λ f. cc

pub loop-init : goal.loop-init
loop-init g c = rw c.clear.ensures.items (Consumes-nil _, All-nil (λ b. b ≢ 10))

pub returns-in-Some-eq10-clause-bytes : goal.returns-in-Some-eq10-clause-bytes
returns-in-Some-eq10-clause-bytes g c =
    Consumes-trans _ _ _ _ _ c.loop.invariant.0 (rw c.in-Some-eq10.field-0-test at c.in-Some-eq10.ensures.bytes)

pub returns-in-Some-eq10-clause-one : goal.returns-in-Some-eq10-clause-one
returns-in-Some-eq10-clause-one g c = c.loop.invariant.1

pub returns-in_err-push-in-Some-clause-one : goal.returns-in_err-push-in-Some-clause-one
returns-in_err-push-in-Some-clause-one g c = rw c.in_err-push-in-Some.ensures.items c.loop.invariant.1

pub loop-preserved : goal.loop-preserved
loop-preserved g c =
    rw c.in_ok-push-in-Some.ensures.items (
      Consumes-trans _ _ _ _ _ c.loop.invariant.0 c.in-Some.ensures.bytes,
      All-push (λ b. b ≢ 10) c.loop.line.items c.in-Some.b c.loop.invariant.1 c.in-Some.b-test.1,
    )

pub returns-clause-bytes : goal.returns-clause-bytes
returns-clause-bytes g c =
    rw (c.then_some.ensures, no_ending (not c.is_empty.result))
    elim c.loop-test.branch [
      | else-loop-test w ↦ rw w.self-is (Consumes-trans _ _ _ _ _ c.loop.invariant.0 (Consumes-nil _))
      | then-loop-test+in-None w ↦ rw w.self-is (Consumes-trans _ _ _ _ _ c.loop.invariant.0 w.in-None.ensures.bytes)
    ]

pub returns-clause-one : goal.returns-clause-one
returns-clause-one g c = c.loop.invariant.1

pub returns-clause-none : goal.returns-clause-none
returns-clause-none g c e = none_left c.loop.line.items (cc)

pub returns-clause-last : goal.returns-clause-last
returns-clause-last g c e = some_left c.loop.line.items (cc)
