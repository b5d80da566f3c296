-- `compression::load_rows` meets its contract. Row by row. Assumes nothing.
use Rattle.std.proofs.Common.{arith}
use Rattle.compression.proofs.Rows.{loaded_more}
use Rattle.compression.proofs.load_rows.Goals as goal

pub loop-t-preserved : goal.loop-t-preserved
loop-t-preserved g c = loaded_more _ (omega arith) c.load_row.ensures c.loop-t.invariant
