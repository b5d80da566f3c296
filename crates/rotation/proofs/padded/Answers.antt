-- `rotation::padded` meets its contract. Seat by seat. Assumes nothing.
use Rattle.std.proofs.Common.{get_or, rules}
use Rattle.std.proofs.iter.Serving.{serving}
use Rattle.sha256.proofs.FromFn.{from_fn_is}
use Rattle.apollo.specs.Rotation.{padded}
use Rattle.rotation.proofs.Fill.{seat, seats}
use Rattle.rotation.proofs.padded.Goals as goal

pub from_fn-requires : goal.from_fn-requires
from_fn-requires c = grind serving

pub returns : goal.returns
returns c =
    let xs = c.args.rotation.now in
    from_fn_is _ _ (λ i. get_or xs i 0) 15 (λ i y q b h. search rules) _ (padded xs) (seats xs) (seat xs) c.from_fn.ensures.items
