-- `gorvlime_c::gorvlime_step` meets its contract: the step's reply in fourteen fields. Assumes nothing.
use Prim.Native.Nat.{ℕ}
use mathlib.Core.Path.{ap, ◌∙◌}
use mathlib.Core.List.{List, ◌++◌}
use lib.ListN.{take, drop}
use borrow.Author.Rules.{rules}
use Rattle.gorvlime_c.specs.Fields.{new_found_fields, found_fields}
use Rattle.gorvlime_c.proofs.Laws.{step_fits}
use Rattle.gorvlime_c.proofs.gorvlime_step.Statement.{statement}
use Rattle.gorvlime_c.proofs.gorvlime_step.Tie as tie

pub gorvlime_step_spec : {M : Type 1} → statement M
unfolding found_fields
gorvlime_step_spec =
    tie.close
    (tie.spec
    (λ c κs. search rules)
    (λ c κs. rw c.step.ensures (step_fits _ _ _))
    (λ c κs. search rules)
    (λ c.
    let fields = c.flat_step.ensures ∙ ap new_found_fields c.step.ensures in
    c.without_layout.ensures ∙ ap (λ (xs : List ℕ). take 4 xs ++ drop 6 xs) fields))
