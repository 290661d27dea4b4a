-- `cells::words_before` meets its contract. Assumes nothing.
use native.Mathlib.Omega.{arith}
use borrow.Author.Tests.{ne_eqb}
use Rattle.words.specs.Words.{word_bytes}
use Rattle.cells.proofs.words_before.Goals as goal

pub returns-then-m-eq3 : goal.returns-then-m-eq3
unfolding word_bytes
returns-then-m-eq3 c = rw c.if-m-eq3.true (omega arith)

pub returns-else-m-eq3 : goal.returns-else-m-eq3
unfolding word_bytes
returns-else-m-eq3 c = rw (ne_eqb _ 3 c.if-m-eq3.false) (omega arith)
