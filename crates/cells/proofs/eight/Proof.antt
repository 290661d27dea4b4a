-- `cells::eight` meets its contract: two times four bytes.
-- Assumes nothing.
use borrow.Author.Rules.{rules}
use Rattle.cells.proofs.Values.{joined}
use Rattle.cells.proofs.eight.Statement.{statement}
use Rattle.cells.proofs.eight.Tie as tie

pub eight_spec : {M : Type 1} → statement M
eight_spec =
    tie.close
    (tie.spec
    (λ c κs. search rules)
    (λ c. search rules)
    (λ c. search rules)
    (λ c κs. search rules)
    (λ c. search rules)
    (λ c. (joined 0 _ _ 4 4 _ _ c.four.ensures.0 c.four-2.ensures.0).0))
