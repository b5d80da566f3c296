-- `lanes::last_block` meets its contract. The mark and the length stand behind the message's last 32 bytes. Assumes nothing.
use Rattle.lanes.proofs.Digest.{last_end}
use Rattle.lanes.proofs.last_block.Goals as goal

pub returns : goal.returns
returns c = last_end c.args.s.now c.copy_from_slice.new.self c.requires c.copy_from_slice.ensures.after
