-- `log_heights::last_low` meets its contract. By the law of `position`, over the slots.
use Rattle.std.proofs.Common.{rules, ◌≡◌, true, false, arith}
use Rattle.std.proofs.lemmas.Iterator.{IsFirst-from_position}
use Rattle.log_heights.specs.Fetch.{is_tall}
use Rattle.log_heights.proofs.Search.{YieldsList-from_log}
use Rattle.log_heights.proofs.Fetched.{low_first, low_told}
use Rattle.log_heights.proofs.last_low.Goals as goal

pub returns : goal.returns
returns c =
    let f =
    low_first _ _ _ _ _
    (IsFirst-from_position _ _ c.position.result (λ x. is_tall x c.args.h ≡ true) (λ x. is_tall x c.args.h ≡ false)
    c.position.ensures.ran
    (YieldsList-from_log c.args.log.now c.args.last_round c.requires c.chunks_exact.ensures.rest c.chunks_exact.ensures.size)
    (λ x q e. search rules) (λ x q e. search rules)) in
    low_told _ _ _ _ f (omega arith) _ _ _ c.map_or.ensures (λ e. e) (λ i e l. search rules)
