-- `Reader::next` meets its contract. By what `take` takes of the piece, which is the old one or was read anew. Assumes nothing.
use Rattle.std.proofs.Common.{ap, ◌∙◌}
use Rattle.text.specs.declared.stdin.Reader.{Reader}
use Rattle.text.specs.Reading.{taken, behind}
use Rattle.text.proofs.Reading.{at_front, taken_consumes, read_consumes, next_left, next_read}
use Rattle.text.proofs.stdin.Reader.next.Goals as goal
use Rattle.text.proofs.stdin.Reader.next.Goals.{then-self, else-self}

pub returns-clause-step : goal.returns-clause-step
returns-clause-step g c =
    let p = c.args.self.now.piece in
    let q = c.take.new.self in
    let taken_by = c.take.ensures in
    elim c.if-self.branch [
      | then-self w ↦
          let m = w.fill.new.self.piece in
          let read = ap (λ (x : Reader g.row.R.Denot). x.piece) w.self-is ∙ at_front m w.fill.ensures.at in
          next_read p q m.bytes m.end c.take.result w.if-self.true (taken_by.byte ∙ ap taken read) (taken_by.rest ∙ ap behind read)
      | else-self w ↦
          let same = ap (λ (x : Reader g.row.R.Denot). x.piece) w.self-is in
          next_left p q c.take.result w.if-self.false (taken_by.byte ∙ ap taken same) (taken_by.rest ∙ ap behind same)
    ]

pub returns-clause-bytes : goal.returns-clause-bytes
returns-clause-bytes g c =
    let p = c.args.self.now.piece in
    elim c.if-self.branch [
      | then-self w ↦
          let m = w.fill.new.self.piece in
          rw (c.take.ensures.byte, c.take.ensures.rest, w.self-is, at_front m w.fill.ensures.at)
          (read_consumes p m.bytes m.end _ _ w.if-self.true w.fill.ensures.bytes)
      | else-self w ↦ rw (c.take.ensures.byte, c.take.ensures.rest, w.self-is) (taken_consumes p _)
    ]
