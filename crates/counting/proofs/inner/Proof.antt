-- `counting::inner` meets its contract. Assumes nothing.
use native.Mathlib.Omega.{arith}
use borrow.Author.Rules.{rules}
use Rattle.counting.proofs.Laws.{inner_room, inner-is}
use Rattle.counting.proofs.inner.Statement.{statement}
use Rattle.counting.proofs.inner.Tie as tie

pub inner_spec : {M : Type 1} → statement M
inner_spec =
    tie.close
    (tie.spec
    -- overflow_sub-n
    (λ c. search rules)
    -- sub-look-up
    (λ c. search rules)
    -- sub-look-up-2
    (λ c. search rules)
    -- look-up-requires
    (λ c κs. search rules)
    -- returns-then-n-le-LAST_ROW
    (λ c. c.look_up.ensures)
    -- overflow_mul-result
    (λ c. let s = c.before in let a = s.args in omega (arith, inner_room a.n a.k a.c (omega arith) s.requires.5 (omega arith) (omega arith) (omega arith)))
    -- nonzero_div-result
    (λ c. search rules)
    -- returns
    (λ c. let s = c.before in let a = s.args in inner-is a.n a.k a.c (omega arith) s.requires.5 (omega arith) (omega arith)))
