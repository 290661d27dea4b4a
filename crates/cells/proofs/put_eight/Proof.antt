-- `cells::put_eight` meets its contract: its halves, one behind the other.
-- Assumes nothing.
use borrow.Author.Rules.{rules}
use Rattle.cells.proofs.Putting.{put-bytes}
use Rattle.cells.proofs.put_eight.Statement.{statement}
use Rattle.cells.proofs.put_eight.Tie as tie

returns : tie.Need-returns
returns c = put-bytes _ 4 4 _ c.put_four.ensures c.put_four-2.ensures

pub put_eight_spec : {M : Type 1} → statement M
put_eight_spec =
    tie.close
    (tie.spec
    (λ c κs. search rules)
    (λ c. search rules)
    (λ c κs. search rules)
    (λ c. search rules)
    returns)
