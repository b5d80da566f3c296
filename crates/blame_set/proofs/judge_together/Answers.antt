-- `blame_set::judge_together` meets its contract. By 16, 14 and 10.
use Rattle.blame_set.proofs.Judge.{not_one, is_early, is_stale, is_taken}
use Rattle.blame_set.proofs.judge_together.Goals as goal

pub returns-then-not-is_one_set : goal.returns-then-not-is_one_set
returns-then-not-is_one_set c =
    not_one c.args.r c.args.masks.now c.args.frames.now _ c.part.ensures _ c.round-round.ensures _ c.is_one_set.ensures
    c.if-not-is_one_set.true

pub returns-then-r-round : goal.returns-then-r-round
returns-then-r-round c =
    is_early c.args.r c.args.masks.now c.args.frames.now _ c.part.ensures _ c.round-round.ensures _ c.is_one_set.ensures
    c.if-not-is_one_set.false c.if-r-round.true

pub returns-then-not-is_any_fresh : goal.returns-then-not-is_any_fresh
returns-then-not-is_any_fresh c =
    is_stale c.args.r c.args.masks.now c.args.frames.now _ c.part.ensures _ c.round-round.ensures _ c.is_one_set.ensures
    c.if-not-is_one_set.false c.if-r-round.false _ c.is_any_fresh.ensures c.if-not-is_any_fresh.true

pub returns : goal.returns
returns c =
    is_taken c.args.r c.args.masks.now c.args.frames.now _ c.part.ensures _ c.round-round.ensures _ c.is_one_set.ensures
    c.if-not-is_one_set.false c.if-r-round.false _ c.is_any_fresh.ensures c.if-not-is_any_fresh.false
