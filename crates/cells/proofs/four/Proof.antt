-- `cells::four` meets its contract: four bytes, read one after the other.
-- Assumes nothing.
use borrow.Author.Rules.{rules}
use native.Mathlib.Omega.{arith}
use Rattle.cells.proofs.Values.{quad}
use Rattle.cells.proofs.four.Statement.{statement}
use Rattle.cells.proofs.four.Tie as tie

returns : tie.Need-returns
returns c = quad _ _ _ _ _ _ (λ i l. (c.shared_slice_known-1.given i).fits) (omega arith)
    c.wide.ensures.0
    c.wide-2.ensures.0 c.wide-3.ensures.0 c.wide-4.ensures.0

pub four_spec : {M : Type 1} → statement M
four_spec =
    tie.close
    (tie.spec
    (λ c. search rules)
    (λ c κs. search rules)
    (λ c. search rules)
    (λ c. search rules)
    (λ c. search rules)
    (λ c κs. search rules)
    (λ c. search rules)
    (λ c. search rules)
    (λ c. search rules)
    (λ c. search rules)
    (λ c κs. search rules)
    (λ c. search rules)
    (λ c. search rules)
    (λ c. search rules)
    (λ c. search rules)
    (λ c κs. search rules)
    (λ c. search rules)
    returns)
