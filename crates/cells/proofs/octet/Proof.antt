-- `cells::octet` meets its contract: with the high bit first it is the byte.
-- Assumes nothing.
use borrow.Author.Rules.{rules}
use mathlib.Core.Path.{sym, ◌∙◌}
use Rattle.cells.proofs.Octets.{octet-high, octet-low}
use Rattle.cells.proofs.octet.Statement.{statement}
use Rattle.cells.proofs.octet.Tie as tie

pub octet_spec : {M : Type 1} → statement M
octet_spec =
    tie.close
    (tie.spec
    (λ c κs. search rules)
    (λ c. rw c.if-order-eq0.true (sym (octet-high _ c.requires), search rules))
    (λ c. (c.mirror.ensures.0 ∙ octet-low _ _ c.if-order-eq0.false, search rules)))
