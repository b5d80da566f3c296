-- `branch_links::attach` meets its contract. By the law of `find` over a range from its end down.
use Rattle.std.proofs.Common.{rules, ℕ, ◌∙◌, ◌-◌, ap, true, false}
use Rattle.apollo.specs.Log as Log
use Rattle.branch_links.proofs.Downward.{first_from_back}
use Rattle.branch_links.proofs.Attaching.{Attaches, attach_told}
use Rattle.branch_links.proofs.attach.Goals as goal

pub returns : goal.returns
returns c =
    attach_told c.args.log.now c.args.x.now c.round.result c.find.result c.or_else.result
    (first_from_back _ _ _ _ (Attaches c.args.log.now c.args.x.now true) (Attaches c.args.log.now c.args.x.now false) _
    c.rev.ensures.source c.find.ensures.ran
    (λ x q e. search rules) (λ x q e. search rules))
    _ _ c.or_else.ensures (λ e. search rules) (λ i e. e)
    ∙ ap (λ (n : ℕ). Log.attach c.args.log.now c.args.x.now (n - 1)) c.round.ensures
