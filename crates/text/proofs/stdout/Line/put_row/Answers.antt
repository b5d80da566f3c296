-- `Line::put_row` meets its contract. By what `put_row` does, seen from the bytes that are written. Assumes nothing.
use Rattle.std.proofs.Common.{ap, ◌∙◌, refl, arith, take}
use Rattle.text.specs.Row.{Line, written}
use Rattle.text.specs.Fitted.{bytes_of}
use Rattle.text.proofs.Fitted.{shows_row}
use Rattle.text.proofs.stdout.Line.put_row.Goals as goal

pub returns : goal.returns
returns g c =
    let l = c.args.self.now in
    let from = written l.bytes l.end in
    ap (λ (w : Line). take w.place w.bytes) c.put_row-self.ensures.written
    ∙ (shows_row g.row.N from (bytes_of l) c.args.ns.now c.args.s.now record { room = omega arith; text = refl }).text
