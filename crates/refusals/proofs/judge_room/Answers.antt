-- `refusals::judge_room` meets its contract. By the two tests of the room.
use Rattle.refusals.proofs.Number.{room_out, room_entry, room_none}
use Rattle.refusals.proofs.judge_room.Goals as goal

pub returns-then-out-lt-OUT : goal.returns-then-out-lt-OUT
returns-then-out-lt-OUT c = room_out c.args.entry c.args.out c.if-out-lt-OUT.true

pub returns-then-entry-gt-ENTRY : goal.returns-then-entry-gt-ENTRY
returns-then-entry-gt-ENTRY c = room_entry c.args.entry c.args.out c.if-out-lt-OUT.false c.if-entry-gt-ENTRY.true

pub returns : goal.returns
returns c = room_none c.args.entry c.args.out c.if-out-lt-OUT.false c.if-entry-gt-ENTRY.false
