-- `row::put_bytes` meets its contract. By what `put` is where s fits and where not. Assumes nothing.
use Rattle.std.proofs.Common.{◌≡◌, ◌+◌, ◌-◌, min, length, sym, ap, ◌∙◌, refl, arith}
use Rattle.std.proofs.lemmas.Slice.{put_mid-paste}
use Rattle.text.specs.Row.{written}
use Rattle.text.proofs.Lines.{put_fits, put_not}
use Rattle.text.proofs.row.put_bytes.Goals as goal

pub returns-then-line-at-clause-written : goal.returns-then-line-at-clause-written
returns-then-line-at-clause-written c =
    let a = c.args in
    let e : min a.at (length a.line.now) ≡ length a.line.now = omega arith in
    ap (written a.line.now) (sym e) ∙ put_not a.line.now a.s.now a.at (omega arith)

pub returns-then-line-at-2-clause-written : goal.returns-then-line-at-2-clause-written
returns-then-line-at-2-clause-written c =
    let a = c.args in
    let e : min a.at (length a.line.now) ≡ a.at = omega arith in
    ap (written a.line.now) (sym e) ∙ put_not a.line.now a.s.now a.at (omega arith)

pub returns-clause-written : goal.returns-clause-written
returns-clause-written c =
    let a = c.args in
    rw (put_mid-paste a.at (a.at + length a.s.now - a.at) a.line.now _ a.s.now (length a.s.now) c.copy_from_slice.ensures.after (omega arith) refl)
    (put_fits a.line.now a.s.now a.at (omega arith))
