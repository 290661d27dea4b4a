-- `gorvlime_c::gorvlime_write` meets its contract: the write's reply in its fields, and its cells. Assumes nothing.
use mathlib.Core.Path.{ap, ◌∙◌}
use borrow.Author.Rules.{rules}
use Rattle.code.specs.Calls.{write_fields}
use Rattle.gorvlime_c.proofs.gorvlime_write.Statement.{statement}
use Rattle.gorvlime_c.proofs.gorvlime_write.Tie as tie

pub gorvlime_write_spec : {M : Type 1} → statement M
gorvlime_write_spec =
    tie.close
    (tie.spec
    (λ c κs. search rules)
    (λ c κs. search rules)
    (λ c. search rules)
    (λ c. let w = c.write.ensures in (c.flat.ensures ∙ ap write_fields w.0, w.1)))
