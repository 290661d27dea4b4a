-- `gorvlime_c::gorvlime_open_new` meets its contract: the reply in four fields. Assumes nothing.
use mathlib.Core.Path.{ap, ◌∙◌}
use borrow.Author.Rules.{rules}
use Rattle.gorvlime_c.specs.Fields.{offset_fields}
use Rattle.gorvlime_c.proofs.gorvlime_open_new.Statement.{statement}
use Rattle.gorvlime_c.proofs.gorvlime_open_new.Tie as tie

pub gorvlime_open_new_spec : {M : Type 1} → statement M
gorvlime_open_new_spec =
    tie.close
    (tie.spec
    (λ c κs. search rules)
    (λ c κs. search rules)
    (λ c. c.flat_opened.ensures ∙ ap (offset_fields 4) c.open_new.ensures))
