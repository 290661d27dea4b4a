-- `counting::look_up` meets its contract. Assumes nothing.
use native.Mathlib.Omega.{arith}
use borrow.Author.Rules.{rules}
use Rattle.counting.proofs.Laws.{choose-above}
use Rattle.counting.proofs.look_up.Statement.{statement}
use Rattle.counting.proofs.look_up.Tie as tie

pub look_up_spec : {M : Type 1} → statement M
look_up_spec =
    tie.close
    (tie.spec
    -- returns-then-n-k
    (λ c. omega (arith, choose-above c.before.args.n c.before.args.k c.if-n-k.true))
    -- stored-requires
    (λ c κs. search rules)
    -- returns
    (λ c. c.stored.ensures))
