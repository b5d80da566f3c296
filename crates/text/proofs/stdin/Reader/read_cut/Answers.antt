-- `Reader::read_cut` meets its contract. By what `next` takes, byte by byte. Assumes nothing.
use Rattle.std.proofs.Common.{◌≡◌, refl, Bool, true, false, ℕ, zero, suc, ◌<◌, [], None, Some, arith}
use Rattle.std.specs.Prelude.{ltb}
use Rattle.std.specs.Bool.{then_some}
use Rattle.std.proofs.KnownBytes.{Consumes-nil}
use Rattle.std.proofs.lemmas.Bool.{lt-ltb}
use Rattle.text.specs.declared.stdin.End.TheVariants.{Newline, Input}
use Rattle.text.specs.Reading.{ending}
use Rattle.text.proofs.Cut.{none_yet, one_more, whole}
use Rattle.text.proofs.stdin.Reader.read_cut.Goals as goal

no_ending : (b : Bool) → ending (then_some b Input) ≡ []
no_ending true = refl
no_ending false = refl

nothing_read : (n : ℕ) → then_some (ltb 0 n) Input ≡ None → n ≡ 0
nothing_read zero e = refl
nothing_read (suc n) e = cc (lt-ltb 0 (suc n) (omega arith))

some_read : (n : ℕ) → then_some (ltb 0 n) Input ≡ Some Input → 0 < n
some_read zero e = cc
some_read (suc n) e = omega arith

pub loop-count-init : goal.loop-count-init
loop-count-init g c = none_yet _ _

pub loop-count-preserved : goal.loop-count-preserved
loop-count-preserved g c =
    one_more _ _ _ _ _ _ _ c.in-Some.b c.loop-count.invariant c.in-Some.b-test.1 c.in-Some.ensures.bytes c.put.ensures

pub returns-in-Some-eq10-clause-bytes : goal.returns-in-Some-eq10-clause-bytes
returns-in-Some-eq10-clause-bytes g c =
    whole _ _ _ _ _ _ (Some Newline) c.loop-count.invariant (rw c.in-Some-eq10.field-0-test at c.in-Some-eq10.ensures.bytes) (λ e. cc) (λ e. cc)

pub returns-in-None-clause-bytes : goal.returns-in-None-clause-bytes
returns-in-None-clause-bytes g c =
    rw c.then_some.ensures
    (whole _ _ _ _ _ c.loop-count.count (then_some (ltb 0 c.loop-count.count) Input) c.loop-count.invariant
    (rw (no_ending (ltb 0 c.loop-count.count)) c.in-None.ensures.bytes) (nothing_read c.loop-count.count) (some_read c.loop-count.count))

pub returns-clause-bytes : goal.returns-clause-bytes
returns-clause-bytes g c =
    whole _ _ _ _ _ c.loop-count.count (Some Input) c.loop-count.invariant (Consumes-nil _) (λ e. cc) (λ e. omega arith)
