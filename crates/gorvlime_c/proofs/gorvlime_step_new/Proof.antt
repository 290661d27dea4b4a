-- `gorvlime_c::gorvlime_step_new` meets its contract: the step's reply in sixteen fields. Assumes nothing.
use mathlib.Core.Path.{ap, ◌∙◌}
use borrow.Author.Rules.{rules}
use Rattle.gorvlime_c.specs.Fields.{new_found_fields}
use Rattle.gorvlime_c.proofs.Laws.{step_fits}
use Rattle.gorvlime_c.proofs.gorvlime_step_new.Statement.{statement}
use Rattle.gorvlime_c.proofs.gorvlime_step_new.Tie as tie

pub gorvlime_step_new_spec : {M : Type 1} → statement M
gorvlime_step_new_spec =
    tie.close
    (tie.spec
    (λ c κs. search rules)
    (λ c κs. rw c.step_new.ensures (step_fits _ _ _))
    (λ c. c.flat_step.ensures ∙ ap new_found_fields c.step_new.ensures))
