-- `sha256::padded_byte` meets its contract. One law for each part of the padded message. Assumes nothing.
use Rattle.std.proofs.Common.{arith}
use Rattle.sha256.proofs.Padding.{padded_front, padded_mark, padded_zero, padded_length, padded_past}
use Rattle.sha256.proofs.padded_byte.Goals as goal

pub returns-then-i-n : goal.returns-then-i-n
returns-then-i-n c = padded_front _ _ (omega arith)

pub returns-then-i-n-2 : goal.returns-then-i-n-2
returns-then-i-n-2 c = padded_mark _ _ (omega arith)

pub returns-then-i-e : goal.returns-then-i-e
returns-then-i-e c = padded_zero _ _ (omega arith) (omega arith)

pub returns-then-j-lt8 : goal.returns-then-j-lt8
returns-then-j-lt8 c = padded_length c.args.s.now c.args.i _ _ c.to_be_bytes.ensures (omega arith) (omega arith)

pub returns : goal.returns
returns c = padded_past _ _ (omega arith)
