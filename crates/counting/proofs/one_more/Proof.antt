-- `counting::one_more` meets its contract. Assumes nothing.
use mathlib.Core.Path.{refl}
use native.Mathlib.Omega.{arith}
use borrow.Author.Rules.{rules}
use Rattle.counting.proofs.Laws.{term-room, term-next}
use Rattle.counting.proofs.one_more.Statement.{statement}
use Rattle.counting.proofs.one_more.Tie as tie

pub one_more_spec : {M : Type 1} → statement M
one_more_spec =
    tie.close
    (tie.spec
    -- overflow_sub-result
    (λ c. search rules)
    -- overflow_mul-result
    (λ c. let a = c.args in omega (arith, term-room a.b a.s a.j a.term c.requires.4 (omega arith) (omega arith)))
    -- overflow_add-result
    (λ c. search rules)
    -- nonzero_div-result
    (λ c. search rules)
    -- returns
    (λ c. let a = c.args in term-next a.b a.s a.j a.term c.requires.4 _ (omega arith) refl))
