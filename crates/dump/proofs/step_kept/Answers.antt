use Rattle.std.proofs.Common.{◌∙◌, ap}
use Rattle.std.proofs.lemmas.Result.{err_from_is_err_and}
use Rattle.code.specs.Dump.{step_values}
use Rattle.records.specs.Head.{said_shape}
use Rattle.dump.proofs.Walking.{located-reply}
use Rattle.dump.proofs.step_kept.Goals as goal

pub returns-in_err-head-clause-step_value : goal.returns-in_err-head-clause-step_value
unfolding step_values
returns-in_err-head-clause-step_value c =
    let p = err_from_is_err_and c.from_residual.result c.from_residual.ensures.1 in
    rw (p.1, p.2) (located-reply _ _ _ c.in_err-head.ensures)

pub returns-in_default-clause-step_value : goal.returns-in_default-clause-step_value
unfolding step_values
returns-in_default-clause-step_value c = located-reply _ _ _ (rw c.in_default.is at c.in_ok-head.ensures)

pub returns-clause-step_value : goal.returns-clause-step_value
unfolding step_values
returns-clause-step_value c =
    let made = c.renew.ensures in
    c.planned_record.ensures _ (made.1.same ∙ ap (said_shape _) made.0) ∙ located-reply _ _ _ (rw c.in-Some.is at c.in_ok-head.ensures)
