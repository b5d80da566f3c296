-- The loop of `Reader::read_cut`: as many bytes of a line as turns were read, and the first ones are kept.
use Rattle.text.specs.Reading.{to_come}
use Rattle.text.specs.Fitted.{bytes_of}
use Rattle.text.proofs.Cut.{Begun}
use Rattle.text.proofs.stdin.Reader.read_cut.Given as goal

abbrev pub invariant-loop-count : goal.invariant-loop-count
invariant-loop-count g l =
    Begun g.row.N (to_come l.initial.self.piece (g.R.Read.remaining l.initial.self.from))
    (to_come l.self.piece (g.R.Read.remaining l.self.from)) (bytes_of l.line) l.count
