-- `cells::put_ahead` meets its contract: each of the three ways puts the same wits.
-- Assumes nothing.
use borrow.Author.Rules.{rules}
use Rattle.cells.proofs.put_ahead.Statement.{statement}
use Rattle.cells.proofs.put_ahead.Tie as tie

pub put_ahead_spec : {M : Type 1} → statement M
put_ahead_spec =
    tie.close
    (tie.spec
    (λ c. search rules)
    (λ c κs. search rules)
    (λ c. search rules)
    (λ c. rw c.if-order-eq0.true c.put_eight.ensures)
    (λ c κs. search rules)
    (λ c. search rules)
    (λ c. rw c.if-order-eq0.true c.put_last.ensures)
    (λ c κs. search rules)
    (λ c. search rules)
    (λ c. search rules))
