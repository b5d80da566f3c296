-- `call_equivocation::fault_at` meets its contract: a refusal at that place, or none.
use Rattle.std.proofs.Common.{rules}
use Rattle.call_equivocation.proofs.Each.{one_told}
use Rattle.call_equivocation.proofs.fault_at.Goals as goal

pub returns : goal.returns
returns c =
    one_told c.args.s c.args.x.now c.args.place c.fault_known-told.result _ _ c.fault_known-told.ensures c.map_err.ensures.cases (λ e f p. search rules)
