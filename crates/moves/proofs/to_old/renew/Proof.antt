-- `moves::to_old::renew` meets its contract. Assumes nothing.
use mathlib.Core.Path.{refl}
use borrow.Author.Rules.{rules}
use Rattle.moves.proofs.ToOld.{says-old}
use Rattle.moves.proofs.to_old.renew.Statement.{statement}
use Rattle.moves.proofs.to_old.renew.Tie as tie

pub renew_spec : {M : Type 1} → statement M
renew_spec =
    tie.close
    (tie.spec
    -- returns-then-kept-said
    (λ c. (c.if-kept-said.true, c.requires))
    -- shape_said-shape-requires
    (λ c κs. search rules)
    -- bounds-v-0
    (λ c. search rules)
    -- returns
    (λ c. (refl, says-old _ _ _ c.shape_said-shape.ensures)))
