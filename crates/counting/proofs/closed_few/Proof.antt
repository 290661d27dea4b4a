-- `counting::closed_few` meets its contract. Assumes nothing.
use mathlib.Core.Path.{◌≡◌, refl, sym}
use Prim.Native.Nat.{◌-◌}
use native.Mathlib.Nat.{mul-le-mul}
use native.Mathlib.Omega.{arith}
use borrow.Author.Rules.{rules}
use Rattle.code.specs.Count.{choose}
use Rattle.counting.proofs.Laws.{choose_one, falling-one, closed-form, closed-product}
use Rattle.counting.proofs.closed_few.Statement.{statement}
use Rattle.counting.proofs.closed_few.Tie as tie

returns : tie.Need-returns-in-0
unfolding choose
returns c = (rw c.in-0.is, omega arith)

pub closed_few_spec : {M : Type 1} → statement M
closed_few_spec =
    tie.close
    (tie.spec
    -- pair-requires
    (λ c κs. search rules)
    -- pair-requires-in_default
    (λ c κs. search rules)
    -- overflow_sub-result
    (λ c. search rules)
    -- overflow_mul-result
    (λ c. omega (arith, mul-le-mul {n₁ = c.pair-in_default.result} {m₁ = c.before.before.args.n - 2} {n₂ = 65280} {m₂ = 256} (omega arith) (omega arith)))
    returns
    -- returns-in-1
    (λ c. (rw (c.in-1.is, choose_one c.before.args.n), omega arith))
    -- returns-in-2
    (λ c.
    let a = c.before.before.args in
    rw c.before.in-2.is (closed-form a.n 2 2 c.pair.result (omega arith) c.pair.ensures.0 refl (omega arith) (omega arith)))
    -- returns-in_default
    (λ c.
    let a = c.before.before.args in
    let e : a.e ≡ 3 = omega arith in
    rw e (closed-product a.n 2 1 6 c.pair-in_default.result (a.n - 2) (omega arith) c.pair-in_default.ensures.0 (sym (falling-one (a.n - 2))) refl (omega arith)
    (omega (arith, mul-le-mul {n₁ = c.pair-in_default.result} {m₁ = a.n - 2} {n₂ = 65280} {m₂ = 256} (omega arith) (omega arith))))))
