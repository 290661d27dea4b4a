-- `cells::any_word` meets its contract: the first of eight bytes.
-- Assumes nothing.
use borrow.Author.Rules.{rules}
use native.Mathlib.Omega.{arith}
use Rattle.cells.proofs.Values.{first-bytes}
use Rattle.cells.proofs.any_word.Statement.{statement}
use Rattle.cells.proofs.any_word.Tie as tie

pub any_word_spec : {M : Type 1} → statement M
any_word_spec =
    tie.close
    (tie.spec
    (λ c κs. search rules)
    (λ c. search rules)
    (λ c. search rules)
    (λ c. search rules)
    (λ c. first-bytes _ _ _ c.args.size (omega arith) c.ahead.ensures))
