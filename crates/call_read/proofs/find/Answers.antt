-- `call_read::find` meets its contract: 2, 15, and taken.
use Rattle.std.proofs.Common.{◌∙◌, refl, ap, arith}
use Rattle.std.specs.Prelude.{Ok}
use Rattle.std.specs.Option.{ok_or}
use Rattle.std.proofs.lemmas.Result.{err_from_is_err_and}
use Rattle.apollo.specs.declared.Part.{Part}
use Rattle.apollo.specs.declared.refusal.Refusal.TheVariants.{Absent}
use Rattle.call_read.specs.Answers.{told}
use Rattle.call_read.proofs.Reading.{read_invalid, committed_fits, no_round, the_round, read_absent, read_found}
use Rattle.record_ranges.proofs.Valid.{replica_test}
use Rattle.call_read.proofs.find.Goals as goal

pub returns-then-not-valid_record-valid_log : goal.returns-then-not-valid_record-valid_log
returns-then-not-valid_record-valid_log c =
    let e = read_invalid _ _ _ _ (replica_test _ _ c.valid_record.ensures c.valid_log.ensures) c.if-not-valid_record-valid_log.true in
    record { part = e; order = cc; number = ap (λ (p : Part). p.number) e }

pub lowest-requires : goal.lowest-requires
lowest-requires c =
    committed_fits c.args.replica c.args.log.now 0 _ (replica_test _ _ c.valid_record.ensures c.valid_log.ensures)
    c.if-not-valid_record-valid_log.false

pub returns-in_err-r : goal.returns-in_err-r
returns-in_err-r c =
    let p = err_from_is_err_and c.from_residual.result c.from_residual.ensures.1 in
    let q = no_round _ _ _ (c.in_err-r.ensures.value ∙ ap (λ o. ok_or o Absent) c.lowest.ensures) in
    let e =
    read_absent _ _ _ _ (replica_test _ _ c.valid_record.ensures c.valid_log.ensures) c.if-not-valid_record-valid_log.false _ refl q.1 in
    rw (p.1, p.2, q.0) record { part = e; order = cc; number = ap (λ (p : Part). p.number) e }

pub entry_part-requires : goal.entry_part-requires
entry_part-requires c =
    let q = the_round _ _ _ (c.in_ok-r.ensures.value ∙ ap (λ o. ok_or o Absent) c.lowest.ensures) in
    omega (arith, q.0, q.1)

pub returns : goal.returns
returns c =
    let q = the_round _ _ _ (c.in_ok-r.ensures.value ∙ ap (λ o. ok_or o Absent) c.lowest.ensures) in
    let e =
    read_found _ _ _ _ (replica_test _ _ c.valid_record.ensures c.valid_log.ensures) c.if-not-valid_record-valid_log.false _ q.0
    (rw q.0 q.1) in
    let f = c.entry_part.ensures in
    record { part = ap (λ p. told (Ok p)) f ∙ e; order = rw f (omega arith); number = ap (λ (p : Part). p.number) e }
