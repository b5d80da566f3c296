-- `setup_ranges::refusal` meets its contract. By the limits, then the rotation.
use Rattle.apollo.specs.Setup.{valid_rotation, valid_limits}
use Rattle.setup_ranges.specs.Number.{lent_number}
use Rattle.setup_ranges.proofs.refusal.Goals as goal

pub returns-then-not-valid_limits : goal.returns-then-not-valid_limits
unfolding lent_number valid_limits
returns-then-not-valid_limits c = rw (← c.valid_limits.ensures, c.if-not-valid_limits.true)

pub returns-then-not-length-n : goal.returns-then-not-length-n
unfolding lent_number valid_limits valid_rotation
returns-then-not-length-n c =
    let seats = rw c.from.ensures at c.valid_rotation.ensures in
    let wrong = rw (c.from.ensures, seats) at c.if-not-length-n.true in
    rw (← c.valid_limits.ensures, c.if-not-valid_limits.false, wrong)

pub returns : goal.returns
unfolding lent_number valid_limits valid_rotation
returns c =
    let seats = rw c.from.ensures at c.valid_rotation.ensures in
    let right = rw (c.from.ensures, seats) at c.if-not-length-n.false in
    rw (← c.valid_limits.ensures, c.if-not-valid_limits.false, right)
