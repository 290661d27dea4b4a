-- `cells::span` meets its contract: the definition, case by case.
-- Assumes nothing.
use borrow.Author.Tests.{eq-eqb, ne_eqb}
use Rattle.words.specs.Words.{word_bytes}
use Rattle.cells.proofs.span.Statement.{statement}
use Rattle.cells.proofs.span.Tie as tie

pub span_spec : {M : Type 1} → statement M
unfolding word_bytes
span_spec =
    tie.close
    (tie.spec
    -- returns-then-m-eq3
    (λ c. simp (eq-eqb _ _ c.if-m-eq3.true))
    -- returns-else-m-eq3
    (λ c. simp (ne_eqb _ _ c.if-m-eq3.false)))
