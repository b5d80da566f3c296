-- The loop of `Words::rest`: what was read is of one line.
use Rattle.std.proofs.Common.{◌≡◌, Option, None}
use Rattle.text.specs.Reading.{to_come}
use Rattle.text.specs.declared.stdin.End.{End}
use Rattle.mixed_lines.specs.Taken.{OfLine}
use Rattle.mixed_lines.proofs.words.Words.rest.Given as goal

abbrev pub invariant-loop : goal.invariant-loop
invariant-loop g l =
    let before = to_come l.initial.self.reader.piece (g.R.Read.remaining l.initial.self.reader.from) in
    let after = to_come l.self.reader.piece (g.R.Read.remaining l.self.reader.from) in
    (l.self.end ≡ None → OfLine before after None)
    × (l.initial.self.end ≡ None → OfLine before after l.self.end)
    × ((e : Option End) × OfLine before after e)
