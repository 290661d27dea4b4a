-- `cells::swap_eight` meets its contract: the word is all that is put.
-- Assumes nothing.
use borrow.Author.Rules.{rules}
use Rattle.cells.proofs.Putting.{swap-all}
use Rattle.cells.proofs.swap_eight.Statement.{statement}
use Rattle.cells.proofs.swap_eight.Tie as tie

returns : tie.Need-returns
returns c =
    let a = c in
    swap-all _ _ _ _ _ _ a.ranges.w.fits c.eight-old.ensures c.put_eight.ensures
    c.turns.ensures

pub swap_eight_spec : {M : Type 1} → statement M
swap_eight_spec =
    tie.close
    (tie.spec
    (λ c κs. search rules)
    (λ c κs. search rules)
    (λ c κs. search rules)
    (λ c. search rules)
    returns)
