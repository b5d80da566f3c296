-- `call_equivocation::judge_pair` meets its contract: the length, then both frames.
use Rattle.call_equivocation.proofs.Call.{pair_cut, pair_whole}
use Rattle.call_equivocation.proofs.judge_pair.Goals as goal

pub returns-then-frames-ne-PAIR : goal.returns-then-frames-ne-PAIR
returns-then-frames-ne-PAIR c = rw c.into.ensures (pair_cut _ _ c.if-frames-ne-PAIR.true)

pub returns : goal.returns
returns c = pair_whole _ _ c.if-frames-ne-PAIR.false _ c.judge_two.ensures
