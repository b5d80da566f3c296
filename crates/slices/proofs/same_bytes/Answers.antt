-- `slices::same_bytes` meets its contract. By the pairs that the chain goes over.
use Rattle.std.proofs.Common.{rules, ℕ}
use Rattle.std.specs.Int.Bits.{bit_or, bit_xor}
use Rattle.std.proofs.lemmas.Iterator.{YieldsList-from_slice, YieldsList-from_zip}
use Rattle.std.proofs.lemmas.Iterator.Consumers.{fold_from_yields_List}
use Rattle.slices.proofs.Same.{same_told}
use Rattle.slices.proofs.same_bytes.Goals as goal

pub returns-then-a-b : goal.returns-then-a-b
returns-then-a-b c =
    same_told c.args.a.now c.args.b.now c.fold.result c.if-a-b.true
    (fold_from_yields_List _ (λ d (p : ℕ × ℕ). bit_or d (bit_xor p.0 p.1)) 0 c.fold.result c.fold.ensures.ran
    (YieldsList-from_zip (YieldsList-from_slice c.args.a.now (cc)) (YieldsList-from_slice c.args.b.now (cc))) (λ d x r q k. search rules))
