-- `counting::binomial` meets its contract. Assumes nothing.
use mathlib.Core.Path.{ap, ◌∙◌}
use native.Mathlib.Omega.{arith}
use borrow.Author.Rules.{rules}
use Rattle.counting.specs.Cap.{sat}
use Rattle.counting.proofs.Laws.{choose-above, symmetry}
use Rattle.counting.proofs.binomial.Statement.{statement}
use Rattle.counting.proofs.binomial.Tie as tie

pub binomial_spec : {M : Type 1} → statement M
binomial_spec =
    tie.close
    (tie.spec
    -- look-up-requires
    (λ c κs. search rules)
    -- clip-requires
    (λ c κs. search rules)
    -- returns-then-n-le-LAST_ROW
    (λ c. c.clip.ensures ∙ ap sat c.before.look_up.ensures)
    -- returns-then-n-k
    (λ c. let a = c.before.before.args in omega (arith, choose-above a.n a.k c.if-n-k.true))
    -- closed-requires
    (λ c κs. search rules)
    -- returns-then-k-lt9
    (λ c. omega (arith, c.closed.ensures))
    -- half-requires
    (λ c κs. search rules)
    -- returns-then-n-k-2
    (λ c. let a = c.before.before.before.before.before.args in rw (symmetry a.n a.k (omega arith)) c.half.ensures)
    -- half-requires-2
    (λ c κs. search rules)
    -- returns
    (λ c. c.half-2.ensures))
