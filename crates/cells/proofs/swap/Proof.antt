-- `cells::swap` meets its contract: what is behind the word is put as it was.
-- Assumes nothing.
use borrow.Author.Rules.{rules}
use Rattle.cells.proofs.Putting.{swap-roomy, swap_is}
use Rattle.cells.proofs.swap.Statement.{statement}
use Rattle.cells.proofs.swap.Tie as tie

put-ahead-requires : tie.Need-put_ahead-requires
put-ahead-requires c κs = rw c.blend-new.ensures (swap-roomy _ _ c.args.cells.now _ _ _ _ _
    c.requires c.ahead-old.ensures)

returns : tie.Need-returns
returns c =
    let a = c in
    let old = c.ahead-old.ensures in
    swap_is _ _ _ _ _ _ _ _ a.requires old _ _ c.blend-new.ensures c.put_ahead.ensures
    c.turns.ensures

pub swap_spec : {M : Type 1} → statement M
swap_spec =
    tie.close
    (tie.spec
    (λ c κs. search rules)
    (λ c κs. search rules)
    put-ahead-requires
    (λ c κs. search rules)
    (λ c. search rules)
    returns)
