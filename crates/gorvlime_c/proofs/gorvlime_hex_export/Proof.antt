-- `gorvlime_c::gorvlime_hex_export` meets its contract: the export's reply in two fields, and its output. Assumes nothing.
use mathlib.Core.Path.{ap, ◌∙◌}
use borrow.Author.Rules.{rules}
use Rattle.code.specs.Calls.{filled}
use Rattle.gorvlime_c.proofs.gorvlime_hex_export.Statement.{statement}
use Rattle.gorvlime_c.proofs.gorvlime_hex_export.Tie as tie

pub gorvlime_hex_export_spec : {M : Type 1} → statement M
gorvlime_hex_export_spec =
    tie.close
    (tie.spec
    (λ c κs. search rules)
    (λ c κs. search rules)
    (λ c. search rules)
    (λ c. let w = c.hex_export.ensures in (c.flat_made.ensures ∙ ap (filled 2) w.0, w.1)))
