-- `cells::mirror` meets its contract: the definition, bit by bit.
-- Assumes nothing.
use borrow.Author.Rules.{rules}
use Rattle.cells.proofs.Octets.{mirrored, octet-lt}
use Rattle.cells.proofs.mirror.Statement.{statement}
use Rattle.cells.proofs.mirror.Tie as tie

returns : tie.Need-returns
returns c = rw (mirrored c.args.x) (search rules, octet-lt 1 c.args.x)

pub mirror_spec : {M : Type 1} → statement M
mirror_spec =
    tie.close
    (tie.spec
    (λ c. search rules)
    (λ c. search rules)
    (λ c. search rules)
    (λ c. search rules)
    (λ c. search rules)
    (λ c. search rules)
    (λ c. search rules)
    (λ c. search rules)
    (λ c. search rules)
    (λ c. search rules)
    (λ c. search rules)
    (λ c. search rules)
    (λ c. search rules)
    (λ c. search rules)
    returns)
