-- `rounds::enter_round` meets its contract. By the test whether this replica leads R.
use Rattle.rounds.proofs.Steps.{leads_last, entered_own, entered_other}
use Rattle.rounds.proofs.enter_round.Goals as goal

pub propose-q-requires : goal.propose-q-requires
propose-q-requires c = (c.requires, leads_last c.args.r _ c.leads.ensures c.if-leads.true)

pub returns-then-leads : goal.returns-then-leads
returns-then-leads c =
    λ masks. entered_own c.args.r c.args.log.now c.args.entry.now c.args.out.now masks _ _ _ (c.propose-q.ensures masks) _ _
    c.leads.ensures c.if-leads.true c.entered.ensures

pub returns : goal.returns
returns c =
    λ masks. entered_other c.args.r c.args.log.now c.args.entry.now c.args.out.now masks _ _ c.leads.ensures c.if-leads.false
    c.entered-2.ensures
