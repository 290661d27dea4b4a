-- `cells::ahead` meets its contract: eight bytes that start before, moved to the left.
-- Assumes nothing.
use borrow.Author.Rules.{rules}
use Rattle.cells.proofs.Values.{from_start}
use Rattle.cells.proofs.ahead.Statement.{statement}
use Rattle.cells.proofs.ahead.Tie as tie

returns : tie.Need-returns-then-cells-ge8
returns c = rw c.if-order-eq0.true (from_start _ _ _ _ c.start_of-start.ensures c.eight.ensures)

pub ahead_spec : {M : Type 1} → statement M
ahead_spec =
    tie.close
    (tie.spec
    (λ c κs. search rules)
    (λ c κs. search rules)
    (λ c. search rules)
    (λ c. search rules)
    (λ c. search rules)
    returns
    (λ c κs. search rules)
    (λ c. search rules))
