-- `compression::extend` meets its contract. Word t of the schedule takes its place in lane l, and no other lane's words change. Assumes nothing.
use Rattle.compression.proofs.Rows.{words_extend, words_kept}
use Rattle.compression.proofs.extend.Goals as goal

pub returns-clause-turns : goal.returns-clause-turns
returns-clause-turns g c = words_extend c.args.w.now _ c.args.i c.args.l _ c.put_word.ensures.here c.extended-x.ensures

pub returns-clause-keeps : goal.returns-clause-keeps
returns-clause-keeps g c = words_kept _ _ c.args.i _ c.put_word.ensures.keeps
