-- `compression::load_row` meets its contract. Lane by lane, one word. Assumes nothing.
use Rattle.std.proofs.Common.{◌∙◌, arith, length-set}
use Rattle.compression.proofs.Rows.{bytes_are, word_put}
use Rattle.compression.proofs.load_row.Goals as goal

pub loop-l-preserved : goal.loop-l-preserved
loop-l-preserved g c = (
  length-set c.loop-l.row c.loop-l.l _ ∙ c.loop-l.invariant.0,
  word_put c.loop-l.row _ c.loop-l.l (omega (arith, c.loop-l.invariant.0)) c.loop-l.invariant.1
      (rw (bytes_are c.args.b.now c.loop-l.l) c.word_at.ensures),
)
