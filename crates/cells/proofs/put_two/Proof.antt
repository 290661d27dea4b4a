-- `cells::put_two` meets its contract: its halves, one behind the other.
-- Assumes nothing.
use borrow.Author.Rules.{rules}
use Rattle.cells.proofs.Putting.{put-bytes}
use Rattle.cells.proofs.put_two.Statement.{statement}
use Rattle.cells.proofs.put_two.Tie as tie

returns : tie.Need-returns
returns c = put-bytes _ 1 1 _ c.put_one.ensures c.put_one-2.ensures

pub put_two_spec : {M : Type 1} → statement M
put_two_spec =
    tie.close
    (tie.spec
    (λ c κs. search rules)
    (λ c. search rules)
    (λ c κs. search rules)
    (λ c. search rules)
    returns)
