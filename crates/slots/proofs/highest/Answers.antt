-- `slots::highest` meets its contract. By the slot read, the highest if it is filled.
use Rattle.std.proofs.Common.{rules, ◌≡◌, ◌∙◌, arith}
use Rattle.slots.proofs.Search.{highest_here, highest_below, highest_none, read_found, read_none}
use Rattle.slots.proofs.highest.Goals as goal

pub loop-passed-init : goal.loop-passed-init
loop-passed-init c = record { read = search rules; none_above = search rules }

pub returns-then-is_filled : goal.returns-then-is_filled
returns-then-is_filled c =
    let found = highest_here _ _ (omega arith) c.if-is_filled.ensures ∙ c.loop-passed.invariant.none_above in
    (found, read_found _ _ _ _ (omega arith) (omega (arith, c.loop-passed.invariant.read)) found)

pub loop-passed-preserved : goal.loop-passed-preserved
loop-passed-preserved c =
    record {
      read = omega (arith, c.loop-passed.invariant.read);
      none_above = highest_below _ _ _ (omega arith) c.if-is_filled.ensures ∙ c.loop-passed.invariant.none_above;
    }

pub returns : goal.returns
returns c =
    let none = highest_none _ _ (omega arith) ∙ c.loop-passed.invariant.none_above in
    let read : c.loop-passed.slots_read ≡ c.args.limit = omega (arith, c.loop-passed.invariant.read) in
    (none, read ∙ read_none _ _ none)
