-- `sha256::padded_block` meets its contract. A block lies within the padded message, whose length is known. Assumes nothing.
use Rattle.std.proofs.Common.{◌+◌, ◌*◌, get_or, arith, rules, length-take, length-drop}
use Rattle.std.proofs.iter.Serving.{serving}
use Rattle.sha256.specs.Fips.{padded, block}
use Rattle.sha256.proofs.Padding.{length_padded, block_byte}
use Rattle.sha256.proofs.FromFn.{from_fn_is}
use Rattle.sha256.proofs.padded_block.Goals as goal

pub from_fn-requires : goal.from_fn-requires
from_fn-requires c = let l = length_padded c.args.s.now in grind (serving, l)

pub returns : goal.returns
returns c =
    from_fn_is _ _ (λ i. get_or (padded c.args.s.now) (64 * c.args.k + i) 0) 64 (λ i y q b h. search rules) _
    (block (padded c.args.s.now) c.args.k)
    (simp (length-take, length-drop) (omega arith))
    (λ i d. block_byte (padded c.args.s.now) c.args.k i d c.requires) c.from_fn.ensures.items
