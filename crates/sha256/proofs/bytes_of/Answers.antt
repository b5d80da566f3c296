-- `sha256::bytes_of` meets its contract. Byte by byte. Assumes nothing.
use Rattle.std.proofs.Common.{ℕ, ◌/◌, ◌%◌, List, [], ◌∷◌, get_or, refl, arith, rules}
use Rattle.std.proofs.iter.Serving.{serving}
use Rattle.std.specs.Int.{w32, to_be_bytes}
use Rattle.sha256.specs.Fips.{bytes_of}
use Rattle.sha256.proofs.Padding.{word_byte}
use Rattle.sha256.proofs.FromFn.{from_fn_is}
use Rattle.sha256.proofs.bytes_of.Goals as goal

pub from_fn-requires : goal.from_fn-requires
from_fn-requires c = grind serving

pub returns : goal.returns
returns c =
    let s = c.args.s in
    let words : List ℕ = s.a ∷ s.b ∷ s.c ∷ s.d ∷ s.e ∷ s.f ∷ s.g ∷ s.h ∷ [] in
    from_fn_is _ _ (λ i. get_or (to_be_bytes w32 (get_or words (i / 4) 0)) (i % 4) 0) 32 (λ i y q b h. search rules) _
    (bytes_of s) refl (λ i d b. word_byte words i d (omega arith)) c.from_fn.ensures.items
