-- `blame_set::judge_set` meets its contract. By 6, and what follows it.
use Rattle.std.proofs.Common.{sym, ◌∙◌, arith}
use Rattle.apollo.proofs.Frames.{whole_fits}
use Rattle.blame_set.proofs.Judge.{set_cut, set_whole}
use Rattle.blame_set.proofs.judge_set.Goals as goal

pub returns-then-not-is_whole : goal.returns-then-not-is_whole
returns-then-not-is_whole c =
    rw c.into.ensures (set_cut c.args.r c.args.masks.now c.args.frames.now c.args.most _ c.is_whole.ensures c.if-not-is_whole.true)

pub judge_frames-requires : goal.judge_frames-requires
judge_frames-requires c =
    let h = whole_fits c.args.most c.args.frames.now (sym c.is_whole.ensures ∙ c.if-not-is_whole.false) in
    (c.requires.0, omega (arith, c.requires.1, h))

pub returns : goal.returns
returns c =
    set_whole c.args.r c.args.masks.now c.args.frames.now c.args.most _ c.is_whole.ensures _ c.if-not-is_whole.false
    c.judge_frames.ensures
