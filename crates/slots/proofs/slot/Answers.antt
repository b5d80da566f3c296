-- `slots::slot` meets its contract. By 512 bytes from the round's place on, the genesis where there is no round before.
use Rattle.std.proofs.Common.{◌∙◌, ◌*◌, ap, arith}
use Rattle.apollo.specs.Size.{frame_size}
use Rattle.apollo.specs.Bytes as Bytes
use Rattle.slots.proofs.Search.{slot_part, slot_genesis}
use Rattle.slots.proofs.slot.Goals as goal

pub returns-in-Some : goal.returns-in-Some
returns-in-Some c =
    let i = c.in-Some.ensures in
    c.part.ensures ∙ ap (λ k. Bytes.part c.args.log.now (frame_size * k) frame_size) i.1 ∙ slot_part c.args.log.now c.args.r i.0

pub returns-in-None : goal.returns-in-None
unfolding Bytes.zeros
returns-in-None c = slot_genesis c.args.log.now c.args.r (omega (arith, c.in-None.ensures))
