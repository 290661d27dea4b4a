-- `gorvlime_c::gorvlime_read` meets its contract: the reading's reply in its fields. Assumes nothing.
use mathlib.Core.Path.{ap, ◌∙◌}
use borrow.Author.Rules.{rules}
use Rattle.code.specs.Calls.{read_fields}
use Rattle.gorvlime_c.proofs.gorvlime_read.Statement.{statement}
use Rattle.gorvlime_c.proofs.gorvlime_read.Tie as tie

pub gorvlime_read_spec : {M : Type 1} → statement M
gorvlime_read_spec =
    tie.close
    (tie.spec
    (λ c κs. search rules)
    (λ c κs. search rules)
    (λ c. c.flat.ensures ∙ ap read_fields c.read.ensures))
