-- The loop of `Reader::read_line`: what is in the line was taken of the bytes to come, and no end of a line.
use Rattle.std.proofs.Common.{◌≢◌, All}
use Rattle.std.specs.Io.KnownBytes.{Consumes}
use Rattle.text.specs.Reading.{to_come}
use Rattle.text.proofs.stdin.Reader.read_line.Given as goal

abbrev pub invariant-loop : goal.invariant-loop
invariant-loop g l =
    Consumes (to_come l.initial.self.piece (g.R.Read.remaining l.initial.self.from)) (to_come l.self.piece (g.R.Read.remaining l.self.from))
    l.line.items
    × All (λ b. b ≢ 10) l.line.items
