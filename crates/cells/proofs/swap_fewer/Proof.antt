-- `cells::swap_fewer` meets its contract: what is behind the word is put as it was.
-- Assumes nothing.
use borrow.Author.Rules.{rules}
use Rattle.cells.proofs.Putting.{swap_is}
use Rattle.cells.proofs.swap_fewer.Statement.{statement}
use Rattle.cells.proofs.swap_fewer.Tie as tie

returns : tie.Need-returns
returns c =
    let a = c in
    let old = c.eight-old.ensures in
    swap_is _ _ _ _ _ _ _ _ a.requires.0 old _ _ c.blend-new.ensures
    c.put_eight.ensures c.turns.ensures

pub swap_fewer_spec : {M : Type 1} → statement M
swap_fewer_spec =
    tie.close
    (tie.spec
    (λ c κs. search rules)
    (λ c κs. search rules)
    (λ c κs. search rules)
    (λ c κs. search rules)
    (λ c. search rules)
    returns)
