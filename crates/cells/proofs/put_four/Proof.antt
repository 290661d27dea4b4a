-- `cells::put_four` meets its contract: its halves, one behind the other.
-- Assumes nothing.
use borrow.Author.Rules.{rules}
use Rattle.cells.proofs.Putting.{put-bytes}
use Rattle.cells.proofs.put_four.Statement.{statement}
use Rattle.cells.proofs.put_four.Tie as tie

returns : tie.Need-returns
returns c = put-bytes _ 2 2 _ c.put_two.ensures c.put_two-2.ensures

pub put_four_spec : {M : Type 1} → statement M
put_four_spec =
    tie.close
    (tie.spec
    (λ c κs. search rules)
    (λ c. search rules)
    (λ c κs. search rules)
    (λ c. search rules)
    returns)
