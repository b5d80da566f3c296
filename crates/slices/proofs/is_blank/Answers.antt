-- `slices::is_blank` meets its contract: no bytes are zero, and bytes past the end are not there. Assumes nothing.
use Rattle.std.proofs.Common.{rules}
use Rattle.slices.proofs.Blank.{blank_test, blank_range}
use Rattle.slices.proofs.is_blank.Goals as goal

pub returns-then-e-a : goal.returns-then-e-a
returns-then-e-a c = blank_test c.args.x.now c.args.a c.args.e _ c.if-e-a.true (search rules)

pub returns-else-e-a : goal.returns-else-e-a
returns-else-e-a c =
    blank_range c.args.x.now c.args.a c.args.e c.if-e-a.false c.get.result c.is_some_and.result c.get.ensures.lookup c.is_some_and.ensures
