-- `log_heights::lowest` meets its contract. By the law of `position`, over the slots.
use Rattle.std.proofs.Common.{rules, ◌≡◌, ◌∙◌, ◌+◌, true, false, arith}
use Rattle.std.proofs.lemmas.Iterator.{IsFirst-from_position}
use Rattle.apollo.specs.Read as Read
use Rattle.apollo.proofs.Found.{found_none, found_some}
use Rattle.log_heights.proofs.Search.{YieldsList-from_log, lowest_first}
use Rattle.log_heights.proofs.lowest.Goals as goal

pub returns-in_err-i : goal.returns-in_err-i
returns-in_err-i c =
    let f =
    lowest_first _ _ _ _ _
    (IsFirst-from_position _ _ c.position.result (λ x. Read.readable x c.args.h ≡ true) (λ x. Read.readable x c.args.h ≡ false)
    c.position.ensures.ran
    (YieldsList-from_log c.args.log.now c.args.committed c.requires c.chunks_exact.ensures.rest c.chunks_exact.ensures.size)
    (λ x q e. search rules) (λ x q e. search rules)) in
    c.from_residual.ensures ∙ found_none _ (rw c.in_err-i.was at f)

pub returns : goal.returns
returns c =
    let f =
    lowest_first _ _ _ _ _
    (IsFirst-from_position _ _ c.position.result (λ x. Read.readable x c.args.h ≡ true) (λ x. Read.readable x c.args.h ≡ false)
    c.position.ensures.ran
    (YieldsList-from_log c.args.log.now c.args.committed c.requires c.chunks_exact.ensures.rest c.chunks_exact.ensures.size)
    (λ x q e. search rules) (λ x q e. search rules)) in
    let i = rw c.in_ok-i.was at f in
    let e : Read.lowest c.args.log.now c.args.h 0 c.args.committed ≡ c.in_ok-i.i + 1 = omega (arith, i.1) in
    rw e (found_some _ (λ z. omega arith))
