-- The loop of `run`: the lines so far were whole, and were carried out.
use Rattle.text.specs.Reading.{to_come}
use Rattle.text.proofs.Running.{Whole}
use Rattle.text.proofs.program.run.Given as goal
use denote.Param.Always.{always_mut}

abbrev pub invariant-loop-count : goal.invariant-loop-count
invariant-loop-count g l =
    (always_mut g.F.FnMut l.initial.obey → always_mut g.F.FnMut l.obey)
    × Whole g.F.FnMut l.initial.obey (to_come l.initial.reader.piece (g.R.Read.remaining l.initial.reader.from)) l.obey
    (to_come l.reader.piece (g.R.Read.remaining l.reader.from))
