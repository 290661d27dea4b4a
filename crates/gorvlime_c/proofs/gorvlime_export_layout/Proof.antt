-- `gorvlime_c::gorvlime_export_layout` meets its contract: the reply in two fields, and the output. Assumes nothing.
use mathlib.Core.Path.{ap, ◌∙◌}
use borrow.Author.Rules.{rules}
use Rattle.code.specs.Calls.{filled}
use Rattle.gorvlime_c.proofs.gorvlime_export_layout.Statement.{statement}
use Rattle.gorvlime_c.proofs.gorvlime_export_layout.Tie as tie

pub gorvlime_export_layout_spec : {M : Type 1} → statement M
gorvlime_export_layout_spec =
    tie.close
    (tie.spec
    (λ c κs. search rules)
    (λ c κs. search rules)
    (λ c. search rules)
    (λ c. let w = c.export_layout.ensures in (c.flat_made.ensures ∙ ap (filled 2) w.0, w.1)))
