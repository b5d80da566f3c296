-- `rounds::hear` meets its contract. By the masks with the blame that is heard.
use Rattle.rounds.proofs.Steps.{heard_settled}
use Rattle.rounds.proofs.hear.Goals as goal

pub returns : goal.returns
returns c =
    heard_settled c.args.r c.args.log.now c.args.masks.now _ c.args.entry.now c.args.out.now c.args.round c.args.signer _
    c.add_blame.ensures c.settle.ensures
