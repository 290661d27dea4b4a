-- `gorvlime_c::gorvlime_read_pair` meets its contract: the reply of a pair's read in its fields. Assumes nothing.
use mathlib.Core.Path.{ap, ◌∙◌}
use borrow.Author.Rules.{rules}
use Rattle.code.specs.Pair.{pair_read_fields}
use Rattle.gorvlime_c.proofs.gorvlime_read_pair.Statement.{statement}
use Rattle.gorvlime_c.proofs.gorvlime_read_pair.Tie as tie

pub gorvlime_read_pair_spec : {M : Type 1} → statement M
gorvlime_read_pair_spec =
    tie.close
    (tie.spec
    (λ c κs. search rules)
    (λ c κs. search rules)
    (λ c. c.flat_reading.ensures ∙ ap pair_read_fields c.read_pair.ensures))
