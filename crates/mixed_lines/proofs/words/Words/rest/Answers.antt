-- `Words::rest` meets its contract. By what `byte` takes of the line. Assumes nothing.
use Rattle.std.proofs.Common.{None}
use Rattle.mixed_lines.proofs.Taken.{nothing_read, one_asked, end_told}
use Rattle.mixed_lines.proofs.words.Words.rest.Goals as goal

pub loop-init : goal.loop-init
loop-init g c = (λ e. nothing_read _, λ e. rw e (nothing_read _), (None, nothing_read _))

pub loop-preserved : goal.loop-preserved
loop-preserved g c =
    let open_line = c.loop.invariant.0 c.in_default.is in
    let now = one_asked _ _ _ c.byte.new.self.end c.byte.result c.byte.ensures.in_word open_line (c.byte.ensures.bytes c.in_default.is) in
    (λ e. rw e at now, λ _. now, (c.byte.new.self.end, now))

pub returns-in-Some-clause-within : goal.returns-in-Some-clause-within
returns-in-Some-clause-within g c = rw c.turn.ensures.reader c.loop.invariant.2

pub returns-in-Some-clause-whole : goal.returns-in-Some-clause-whole
returns-in-Some-clause-whole g c e =
    rw c.turn.ensures.reader (end_told _ _ c.loop.self.end c.turn.result (rw c.in-Some.is c.turn.ensures.ending) (c.loop.invariant.1 e))
