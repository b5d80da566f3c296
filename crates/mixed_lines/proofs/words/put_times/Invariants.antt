-- The loop of `put_times`: so many bytes were put.
use Rattle.std.proofs.Common.{◌≡◌, ◌++◌, replicate}
use Rattle.mixed_lines.proofs.words.put_times.Given as goal

abbrev pub invariant-loop : goal.invariant-loop
invariant-loop g l = l.to.items ≡ l.initial.to.items ++ replicate l.counter l.b
