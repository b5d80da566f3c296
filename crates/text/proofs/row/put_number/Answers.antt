-- `row::put_number` meets its contract. By the digits that itoa writes. Assumes nothing.
use Rattle.std.proofs.Common.{ap, ap₂, ◌∙◌, [], ◌∷◌, take, arith}
use Rattle.text.specs.Row.{written, put, put_number}
use Rattle.text.proofs.Decimal.{decimal_same}
use Rattle.text.proofs.row.put_number.Goals as goal

pub returns : goal.returns
unfolding put_number
returns c =
    let a = c.args in
    c.put_bytes.ensures.written
    ∙ ap₂ put
    (c.put_bytes-e.ensures.written ∙ ap (λ j. put (written a.line.now a.at) (take j (32 ∷ []))) c.min.ensures)
    (c.as_bytes-digits.ensures.value ∙ c.format.ensures.text ∙ decimal_same a.n (omega arith))
