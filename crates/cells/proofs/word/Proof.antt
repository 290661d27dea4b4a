-- `cells::word` meets its contract: the first of eight bytes.
-- Assumes nothing.
use borrow.Author.Rules.{rules}
use native.Mathlib.Omega.{arith}
use Rattle.cells.proofs.Values.{first-bytes}
use Rattle.cells.proofs.word.Statement.{statement}
use Rattle.cells.proofs.word.Tie as tie

returns-2 : tie.Need-returns-then-at-cells
returns-2 c = rw c.if-order-eq0.true (first-bytes _ _ _ c.args.size (omega arith)
    c.eight-then-at-cells.ensures)

pub word_spec : {M : Type 1} → statement M
word_spec =
    tie.close
    (tie.spec
    (λ c κs. search rules)
    (λ c. rw c.if-size-eq8.true (rw c.if-order-eq0.true c.eight.ensures))
    (λ c. search rules)
    (λ c κs. search rules)
    (λ c. search rules)
    (λ c. search rules)
    (λ c. search rules)
    returns-2
    (λ c κs. search rules)
    (λ c. search rules))
