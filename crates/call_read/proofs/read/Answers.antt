-- `call_read::read` meets its contract: the part that is told, which lies in the log.
use Rattle.std.proofs.Common.{ap, sym, ◌∙◌}
use Rattle.std.proofs.lemmas.Result.{err_from_is_err_and}
use Rattle.apollo.specs.declared.Part.{Part}
use Rattle.apollo.specs.Bytes.{part}
use Rattle.call_read.specs.Answers.{told}
use Rattle.call_read.proofs.Reading.{read_bytes, ends_low}
use Rattle.call_read.proofs.read.Goals as goal

pub cut-requires : goal.cut-requires
cut-requires c = (c.in_ok-p.ensures.order, ends_low _ _ _ _ _ c.in_ok-p.ensures.part c.in_ok-p.ensures.order)

pub returns-clause-bytes : goal.returns-clause-bytes
returns-clause-bytes c =
    c.cut.ensures.bytes ∙ ap (λ (p : Part). part c.args.log.now p.start p.length) c.in_ok-p.ensures.part ∙ read_bytes _ _ _

pub returns-in_err-p-clause-bytes : goal.returns-in_err-p-clause-bytes
returns-in_err-p-clause-bytes c =
    let p = err_from_is_err_and c.from_residual.result c.from_residual.ensures.1 in
    let e = sym (ap told c.in_err-p.was) ∙ c.find.ensures.part in
    rw p.1 (ap (λ (p : Part). part c.args.log.now p.start p.length) e ∙ read_bytes _ _ _)
