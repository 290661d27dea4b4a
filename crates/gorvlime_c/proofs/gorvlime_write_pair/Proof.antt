-- `gorvlime_c::gorvlime_write_pair` meets its contract: the reply of a pair's write in its fields, and the cells of both. Assumes nothing.
use mathlib.Core.Path.{ap, ◌∙◌}
use borrow.Author.Rules.{rules}
use Rattle.code.specs.Pair.{pair_write_fields}
use Rattle.gorvlime_c.proofs.gorvlime_write_pair.Statement.{statement}
use Rattle.gorvlime_c.proofs.gorvlime_write_pair.Tie as tie

pub gorvlime_write_pair_spec : {M : Type 1} → statement M
gorvlime_write_pair_spec =
    tie.close
    (tie.spec
    (λ c κs. search rules)
    (λ c κs. search rules)
    (λ c. search rules)
    (λ c. search rules)
    (λ c. let w = c.write_pair.ensures in (c.flat_writing.ensures ∙ ap pair_write_fields w.0, w.1)))
