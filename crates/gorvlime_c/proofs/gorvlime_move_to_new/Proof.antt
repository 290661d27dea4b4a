-- `gorvlime_c::gorvlime_move_to_new` meets its contract: the reply in three fields, and the output. Assumes nothing.
use mathlib.Core.Path.{ap, ◌∙◌}
use borrow.Author.Rules.{rules}
use Rattle.gorvlime_c.specs.Fields.{offset_fields}
use Rattle.gorvlime_c.proofs.gorvlime_move_to_new.Statement.{statement}
use Rattle.gorvlime_c.proofs.gorvlime_move_to_new.Tie as tie

pub gorvlime_move_to_new_spec : {M : Type 1} → statement M
gorvlime_move_to_new_spec =
    tie.close
    (tie.spec
    (λ c κs. search rules)
    (λ c κs. search rules)
    (λ c. search rules)
    (λ c. let w = c.move_to_new.ensures in (c.flat_moved.ensures ∙ ap (offset_fields 3) w.0, w.1)))
