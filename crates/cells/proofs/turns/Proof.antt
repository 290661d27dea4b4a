-- `cells::turns` meets its contract: the new word or the old is no less than the old.
-- Assumes nothing.
use borrow.Author.Rules.{rules}
use native.Mathlib.Omega.{arith}
use Rattle.cells.proofs.Counting.{or_above}
use Rattle.cells.proofs.turns.Statement.{statement}
use Rattle.cells.proofs.turns.Tie as tie

pub turns_spec : {M : Type 1} → statement M
turns_spec =
    tie.close
    (tie.spec
    (λ c. omega (arith, or_above c.args.new c.args.old))
    (λ c κs. search rules)
    (λ c. search rules))
