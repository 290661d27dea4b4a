-- `counting::pair` meets its contract. Assumes nothing.
use Prim.Native.Nat.{◌-◌}
use native.Mathlib.Nat.{mul-le-mul}
use native.Mathlib.Omega.{arith}
use borrow.Author.Rules.{rules}
use Rattle.counting.proofs.Laws.{falling-two}
use Rattle.counting.proofs.pair.Statement.{statement}
use Rattle.counting.proofs.pair.Tie as tie

pub pair_spec : {M : Type 1} → statement M
pair_spec =
    tie.close
    (tie.spec
    -- overflow_sub-result
    (λ c. search rules)
    -- overflow_mul-result
    (λ c. let n = c.args.n in omega (arith, mul-le-mul {n₁ = n} {m₁ = n - 1} {n₂ = 256} {m₂ = 255} (omega arith) (omega arith)))
    -- returns
    (λ c.
    let n = c.args.n in
    (omega (arith, falling-two n), omega (arith, mul-le-mul {n₁ = n} {m₁ = n - 1} {n₂ = 256} {m₂ = 255} (omega arith) (omega arith)))))
