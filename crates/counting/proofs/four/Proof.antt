-- `counting::four` meets its contract. Assumes nothing.
use native.Mathlib.Nat.{mul-le-mul}
use native.Mathlib.Omega.{arith}
use borrow.Author.Rules.{rules}
use Rattle.counting.proofs.Laws.{falling-add}
use Rattle.counting.proofs.four.Statement.{statement}
use Rattle.counting.proofs.four.Tie as tie

pub four_spec : {M : Type 1} → statement M
four_spec =
    tie.close
    (tie.spec
    -- pair-requires
    (λ c κs. search rules)
    -- overflow_sub-n
    (λ c. search rules)
    -- pair-requires-2
    (λ c κs. search rules)
    -- overflow_mul-result
    (λ c. omega (arith, mul-le-mul {n₁ = c.before.pair.result} {m₁ = c.pair-2.result} {n₂ = 65280} {m₂ = 65280} (omega arith) (omega arith)))
    -- returns
    (λ c. (
      cc (falling-add c.before.before.args.n 2 2),
      omega (arith, mul-le-mul {n₁ = c.before.pair.result} {m₁ = c.pair-2.result} {n₂ = 65280} {m₂ = 65280} (omega arith) (omega arith)),
    )))
