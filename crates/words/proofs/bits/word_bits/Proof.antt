-- `words::bits::word_bits` meets its contract. Assumes nothing.
use borrow.Author.Tests.{eq-eqb, ne_eqb}
use Rattle.words.specs.Words.{word_bytes}
use Rattle.words.proofs.bits.word_bits.Statement.{statement}
use Rattle.words.proofs.bits.word_bits.Tie as tie

pub word_bits_spec : {M : Type 1} → statement M
unfolding word_bytes
word_bits_spec =
    tie.close
    (tie.spec
    -- returns-then-m-eq3
    (λ c. simp (eq-eqb _ _ c.if-m-eq3.true))
    -- returns-else-m-eq3
    (λ c. simp (ne_eqb _ _ c.if-m-eq3.false)))
