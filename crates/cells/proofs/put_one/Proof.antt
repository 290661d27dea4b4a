-- `cells::put_one` meets its contract: the wits of the byte stored.
-- Assumes nothing.
use borrow.Author.Rules.{rules}
use Rattle.cells.proofs.Putting.{put_byte}
use Rattle.cells.proofs.put_one.Statement.{statement}
use Rattle.cells.proofs.put_one.Tie as tie

pub put_one_spec : {M : Type 1} → statement M
put_one_spec =
    tie.close
    (tie.spec
    (λ c κs. search rules)
    (λ c. search rules)
    (λ c. search rules)
    (λ c. search rules)
    (λ c. put_byte _ _ _ _ _ c.requires c.octet.ensures.0))
