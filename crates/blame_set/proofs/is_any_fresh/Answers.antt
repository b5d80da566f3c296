-- `blame_set::is_any_fresh` meets its contract. By the law of `any`, over the frames.
use Rattle.std.proofs.Common.{rules, ◌∙◌}
use Rattle.std.proofs.lemmas.Iterator.Search.{any_from_yields_List}
use Rattle.frame.proofs.Walk.{YieldsList-from_frames}
use Rattle.blame_set.proofs.Each.{fresh_any}
use Rattle.blame_set.proofs.is_any_fresh.Goals as goal

pub returns : goal.returns
returns c =
    any_from_yields_List _ _ _ c.any.result c.any.ensures.ran
    (YieldsList-from_frames _ c.chunks_exact.ensures.rest c.chunks_exact.ensures.size) (λ x b q e. search rules)
    ∙ fresh_any c.args.masks.now _
