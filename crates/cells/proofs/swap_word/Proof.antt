-- `cells::swap_word` meets its contract: each of the three ways puts the same wits.
-- Assumes nothing.
use borrow.Author.Rules.{rules}
use Rattle.cells.proofs.swap_word.Statement.{statement}
use Rattle.cells.proofs.swap_word.Tie as tie

returns : tie.Need-returns-then-size-eq8
returns c = rw c.if-size-eq8.true
    (rw c.if-order-eq0.true c.swap_eight.ensures)

pub swap_word_spec : {M : Type 1} → statement M
swap_word_spec =
    tie.close
    (tie.spec
    (λ c κs. search rules)
    (λ c. search rules)
    returns
    (λ c. search rules)
    (λ c κs. search rules)
    (λ c. search rules)
    (λ c. rw c.if-order-eq0.true c.swap_fewer.ensures)
    (λ c κs. search rules)
    (λ c. search rules)
    (λ c. search rules))
