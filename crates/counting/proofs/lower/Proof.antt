-- `counting::lower` meets its contract. Assumes nothing.
use native.Mathlib.Omega.{arith}
use borrow.Author.Rules.{rules}
use Rattle.counting.proofs.Laws.{lower-room, lower-is}
use Rattle.counting.proofs.lower.Statement.{statement}
use Rattle.counting.proofs.lower.Tie as tie

pub lower_spec : {M : Type 1} → statement M
lower_spec =
    tie.close
    (tie.spec
    -- overflow_sub-n
    (λ c. search rules)
    -- sub-look-up
    (λ c. search rules)
    -- look-up-requires
    (λ c κs. search rules)
    -- returns-then-n-le-LAST_ROW
    (λ c. c.look_up.ensures)
    -- overflow_sub-result
    (λ c. search rules)
    -- overflow_mul-result
    (λ c. let s = c.before in let a = s.args in omega (arith, lower-room a.n a.k a.c (omega arith) s.requires.4 (omega arith) (omega arith)))
    -- nonzero_div-result
    (λ c. search rules)
    -- returns
    (λ c. let s = c.before in let a = s.args in lower-is a.n a.k a.c (omega arith) s.requires.4 (omega arith) (omega arith)))
