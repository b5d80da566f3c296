-- `row::put_row` meets its contract. By putting the number at i, and by what is put when no number is left. Assumes nothing.
use Rattle.std.proofs.Common.{◌+◌, drop, sym, ap, ◌∙◌, arith}
use Rattle.text.specs.Row.{written, put, put_from, put_row}
use Rattle.text.proofs.Lines.{from_next, from_end}
use Rattle.text.proofs.row.put_row.Goals as goal

pub loop-i-preserved : goal.loop-i-preserved
loop-i-preserved c =
    let l = c.loop-i in
    let ns = c.args.ns.now in
    l.invariant
    ∙ from_next (written l.line l.e) l.i ns c.loop-i-test.true
    ∙ ap (λ w. put_from w (l.i + 1) (drop (l.i + 1) ns)) (sym c.put_number-e.ensures)

pub returns-clause-written : goal.returns-clause-written
unfolding put_row
returns-clause-written c =
    let l = c.loop-i in
    c.put_bytes.ensures.written
    ∙ ap (λ w. put w c.args.s.now) (sym (l.invariant ∙ from_end (written l.line l.e) l.i c.args.ns.now (omega arith)))
