-- `frame_checks::check_ahead` meets its contract: by how many frames there are.
use Rattle.std.proofs.Common.{arith, ◌∙◌, sym}
use Rattle.frame_checks.proofs.Ahead.{there, missing, four}
use Rattle.frame_checks.proofs.check_ahead.Goals as goal

pub returns-in-empty : goal.returns-in-empty
returns-in-empty c =
    let xs = c.args.frames.now in
    four xs (missing xs 0 (omega arith)) (missing xs 1 (omega arith)) (missing xs 2 (omega arith)) (missing xs 3 (omega arith))

pub returns-in-len1 : goal.returns-in-len1
returns-in-len1 c =
    let xs = c.args.frames.now in
    four xs (c.checked.ensures ∙ sym (there xs 0 (omega arith))) (missing xs 1 (omega arith)) (missing xs 2 (omega arith)) (missing xs 3 (omega arith))

pub returns-in-len2 : goal.returns-in-len2
returns-in-len2 c =
    let xs = c.args.frames.now in
    four xs (c.checked-in-len2.ensures ∙ sym (there xs 0 (omega arith))) (c.checked-in-len2-2.ensures ∙ sym (there xs 1 (omega arith)))
    (missing xs 2 (omega arith)) (missing xs 3 (omega arith))

pub returns-in-len3 : goal.returns-in-len3
returns-in-len3 c =
    let xs = c.args.frames.now in
    rw c.check_four.ensures
    (four xs (sym (there xs 0 (omega arith))) (sym (there xs 1 (omega arith))) (sym (there xs 2 (omega arith))) (missing xs 3 (omega arith)))

pub returns-in-len4-up : goal.returns-in-len4-up
returns-in-len4-up c =
    let xs = c.args.frames.now in
    c.check_four-in-len4-up.ensures
    ∙ four xs (sym (there xs 0 (omega arith))) (sym (there xs 1 (omega arith))) (sym (there xs 2 (omega arith))) (sym (there xs 3 (omega arith)))
