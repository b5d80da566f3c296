-- `record_ranges::valid_record` meets its contract. By the tests that it joins.
use Rattle.record_ranges.proofs.Valid.{record_test}
use Rattle.record_ranges.proofs.valid_record.Goals as goal

pub returns : goal.returns
returns c =
    let seats = rw c.from.ensures at c.valid_rotation.ensures in
    record_test c.args.r c.valid_limits.ensures seats c.valid_own.ensures c.valid_rounds.ensures c.valid_marks.ensures
    c.leads.ensures
