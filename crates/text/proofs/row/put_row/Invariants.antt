-- The loop of `row::put_row`: putting the numbers from i on gives what putting all at first gives.
use Rattle.std.proofs.Common.{◌≡◌, drop}
use Rattle.text.specs.Row.{written, put_from}
use Rattle.text.proofs.row.put_row.Given as goal

abbrev pub invariant-loop-i : goal.invariant-loop-i
invariant-loop-i l = put_from (written l.initial.line l.at) 0 l.ns ≡ put_from (written l.line l.e) l.i (drop l.i l.ns)
