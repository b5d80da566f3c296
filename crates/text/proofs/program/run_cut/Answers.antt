-- `run_cut` meets its contract. By the lines so far, and one more. Assumes nothing.
use Rattle.std.proofs.Common.{◌≡◌, refl, ap, ◌∙◌, Some, Err}
use Rattle.std.proofs.KnownBytes.{Consumes-nil}
use Rattle.std.proofs.lemmas.Result.{err_from_is_err_and}
use Rattle.text.proofs.Running.{not_done, well_done}
use Rattle.text.proofs.RunningCut.{none_yet, one_more, with_last, none_left, all_whole}
use denote.Param.Always.{mut_next}
use Rattle.text.proofs.program.run_cut.Goals as goal
use Rattle.text.proofs.program.run_cut.Goals.{in-Some-obey+in_ok-done-in-Some-obey, in-None}

pub loop-number-init : goal.loop-number-init
loop-number-init g c = (λ h. h, none_yet _ _ _ _ _ refl)

pub returns-in_default-clause-carried_out : goal.returns-in_default-clause-carried_out
returns-in_default-clause-carried_out g c = none_left _ _ _ _ _ _ _ _ _ c.loop-number.invariant.1 c.read_cut.ensures.bytes c.in_default.is

pub returns-in-Input-clause-carried_out : goal.returns-in-Input-clause-carried_out
returns-in-Input-clause-carried_out g c =
    with_last _ _ _ _ _ _ _ _ _ _ c.loop-number.invariant.1 c.read_cut.ensures.bytes (c.in-Some.is ∙ ap Some c.in-Input.is) record {
      done = c.obey.result;
      called = record { shown = c.written.result; shows = c.written.ensures; called = c.obey.ensures };
      was_done =
          elim c.match-obey.branch [
            | in-Some-obey+in_ok-done-in-Some-obey w ↦ well_done _ _ _ w.in-Some-obey.is w.in_ok-done-in-Some-obey.was
            | in-None w ↦ not_done _ w.in-None.is
          ];
    }

pub loop-number-preserved : goal.loop-number-preserved
loop-number-preserved g c = (
  λ h. mut_next g.F.FnMut _ _ _ _ _ c.obey.ensures refl (c.loop-number.invariant.0 h),
  one_more _ _ _ _ _ _ _ _ _ _ c.loop-number.invariant.1 c.read_cut.ensures.bytes (c.in-Some.is ∙ ap Some c.in_default-end.is) record {
    done = c.obey.result;
    called = record { shown = c.written.result; shows = c.written.ensures; called = c.obey.ensures };
    was_done =
        elim c.match-obey.branch [
          | in-Some-obey+in_ok-done-in-Some-obey w ↦ well_done _ _ _ w.in-Some-obey.is w.in_ok-done-in-Some-obey.was
          | in-None w ↦ not_done _ w.in-None.is
        ];
  },
)

pub returns-clause-carried_out : goal.returns-clause-carried_out
returns-clause-carried_out g c = all_whole _ _ _ _ _ _ _ c.loop-number.invariant.1 (Consumes-nil _)

pub returns-in_err-done-in-Some-obey-clause-stopped : goal.returns-in_err-done-in-Some-obey-clause-stopped
returns-in_err-done-in-Some-obey-clause-stopped g c =
    let p = err_from_is_err_and c.from_residual.result c.from_residual.ensures.1 in
    let e : c.obey.result ≡ Some (Err c.in_err-done-in-Some-obey.field-0.0) =
    c.in-Some-obey.is ∙ ap Some c.in_err-done-in-Some-obey.was in
    rw (p.1, p.2) record {
      line = _;
      from = _;
      to = _;
      called = record { shown = c.written.result; shows = c.written.ensures; called = rw e at c.obey.ensures };
    }
