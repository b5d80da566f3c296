-- `run` meets its contract. By the lines so far, and one more. Assumes nothing.
use Rattle.std.proofs.Common.{refl, ap, ◌∙◌, Ok}
use Rattle.std.proofs.KnownBytes.{Consumes-nil}
use Rattle.text.proofs.Running.{none_yet, one_more, with_last, all_whole, not_done, well_done}
use denote.Param.Always.{mut_next}
use Rattle.text.proofs.program.run.Goals as goal
use Rattle.text.proofs.program.run.Goals.{in-Some-obey+in_ok-done-in-Some-obey, in-None}

pub loop-count-init : goal.loop-count-init
loop-count-init g c = (λ h. h, none_yet _ _ _ _ refl)

pub returns-in_default : goal.returns-in_default
returns-in_default g c =
    let empty = c.read_line.ensures.none (c.in_ok-end.was ∙ ap Ok c.in_default.is) in
    all_whole _ _ _ _ _ _ c.loop-count.invariant.1 (rw (c.in_default.is, empty) at c.in_ok-end.ensures.bytes)

pub returns-in-Input : goal.returns-in-Input
returns-in-Input g c =
    with_last _ _ _ _ _ _ _ c.read_line.new.line.items c.loop-count.invariant.1 c.read_line.ensures.one
    (rw (c.in-Some.is, c.in-Input.is) at c.in_ok-end.ensures.bytes) record {
      done = c.obey.result;
      called = record { shown = c.deref.result; shows = c.deref.ensures.value; called = c.obey.ensures };
      was_done =
          elim c.match-obey.branch [
            | in-Some-obey+in_ok-done-in-Some-obey w ↦ well_done _ _ _ w.in-Some-obey.is w.in_ok-done-in-Some-obey.was
            | in-None w ↦ not_done _ w.in-None.is
          ];
    }

pub loop-count-preserved : goal.loop-count-preserved
loop-count-preserved g c = (
  λ h. mut_next g.F.FnMut _ _ _ _ _ c.obey.ensures refl (c.loop-count.invariant.0 h),
  one_more _ _ _ _ _ _ _ c.read_line.new.line.items c.loop-count.invariant.1 c.read_line.ensures.one
      (rw (c.in-Some.is, c.in_default-end.is) at c.in_ok-end.ensures.bytes) record {
        done = c.obey.result;
        called = record { shown = c.deref.result; shows = c.deref.ensures.value; called = c.obey.ensures };
        was_done =
            elim c.match-obey.branch [
              | in-Some-obey+in_ok-done-in-Some-obey w ↦ well_done _ _ _ w.in-Some-obey.is w.in_ok-done-in-Some-obey.was
              | in-None w ↦ not_done _ w.in-None.is
            ];
      },
)

pub returns : goal.returns
returns g c = all_whole _ _ _ _ _ _ c.loop-count.invariant.1 (Consumes-nil _)
