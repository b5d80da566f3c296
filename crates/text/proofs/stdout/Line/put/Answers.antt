-- `Line::put` meets its contract. By what `put_bytes` does, seen from the bytes that are written. Assumes nothing.
use Rattle.std.proofs.Common.{ap, ◌∙◌, refl, arith, take}
use Rattle.text.specs.Row.{Line, written}
use Rattle.text.specs.Fitted.{bytes_of}
use Rattle.text.proofs.Fitted.{shows_put}
use Rattle.text.proofs.stdout.Line.put.Goals as goal

pub returns : goal.returns
returns g c =
    let l = c.args.self.now in
    let from = written l.bytes l.end in
    ap (λ (w : Line). take w.place w.bytes) c.put_bytes-self.ensures.written
    ∙ (shows_put g.row.N from (bytes_of l) c.args.s.now record { room = omega arith; text = refl }).text
