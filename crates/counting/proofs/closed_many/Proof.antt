-- `counting::closed_many` meets its contract. Assumes nothing.
use mathlib.Core.Path.{◌≡◌, refl, sym}
use Prim.Native.Nat.{◌*◌, ◌-◌, ◌^◌, ◌≤◌, ◌<◌}
use native.Mathlib.Nat.{mul-le-mul}
use native.Mathlib.Omega.{arith}
use borrow.Author.Rules.{rules}
use Rattle.counting.specs.Falling.{falling}
use Rattle.counting.proofs.Laws.{falling-one, falling-add, closed-form, closed-product}
use Rattle.counting.proofs.closed_many.Statement.{statement}
use Rattle.counting.proofs.closed_many.Tie as tie

-- the products fit
five : (c : tie.In-5) → c.before.four-f.result * (c.before.before.args.n - 4) ≤ 2 ^ 40
five c = omega (arith, mul-le-mul {n₁ = c.before.four-f.result} {m₁ = c.before.before.args.n - 4} {n₂ = 2 ^ 32} {m₂ = 256} (omega arith) (omega arith))

six : (c : tie.After-pair) → c.before.before.four-f.result * c.pair.result ≤ 2 ^ 48
six c = omega (arith, mul-le-mul {n₁ = c.before.before.four-f.result} {m₁ = c.pair.result} {n₂ = 2 ^ 32} {m₂ = 65536} (omega arith) (omega arith))

three : (c : tie.After-pair-in-7) → c.pair-in-7.result * (c.before.before.before.args.n - 6) ≤ 2 ^ 24
three c = omega (arith, mul-le-mul {n₁ = c.pair-in-7.result} {m₁ = c.before.before.before.args.n - 6} {n₂ = 65536} {m₂ = 256} (omega arith) (omega arith))

seven : (c : tie.After-pair-in-7) → c.before.before.four-f.result * (c.pair-in-7.result * (c.before.before.before.args.n - 6)) ≤ 2 ^ 56
seven c = omega (arith, mul-le-mul {n₁ = c.before.before.four-f.result} {n₂ = 2 ^ 32} {m₂ = 2 ^ 24} (omega arith) (three c))

eight : (c : tie.After-four) → c.before.before.four-f.result * c.four.result < 2 ^ 64
eight c =
    omega (arith, mul-le-mul {n₁ = c.before.before.four-f.result} {m₁ = c.four.result} {n₂ = 2 ^ 32 - 1} {m₂ = 2 ^ 32 - 1} (omega arith) (omega arith))

pub closed_many_spec : {M : Type 1} → statement M
closed_many_spec =
    tie.close
    (tie.spec
    -- four-f-requires
    (λ c κs. search rules)
    -- overflow_sub-result
    (λ c. search rules)
    -- overflow_mul-result
    (λ c. omega (arith, five c))
    -- overflow_sub-n
    (λ c. search rules)
    -- pair-requires
    (λ c κs. search rules)
    -- overflow_mul-result-in-6
    (λ c. omega (arith, six c))
    -- overflow_sub-n-in-7
    (λ c. search rules)
    -- pair-requires-in-7
    (λ c κs. search rules)
    -- overflow_sub-result-in-7
    (λ c. search rules)
    -- overflow_mul-result-in-7
    (λ c. omega (arith, three c))
    -- overflow_mul-result-in-7-2
    (λ c. omega (arith, seven c))
    -- overflow_sub-n-in_default
    (λ c. search rules)
    -- four-requires
    (λ c κs. search rules)
    -- overflow_mul-result-in_default
    (λ c. omega (arith, eight c))
    -- returns-in-4
    (λ c. rw c.in-4.is (closed-form c.before.before.args.n 4 24 _ (omega arith) c.before.four-f.ensures.0 refl (omega arith) (omega arith)))
    -- returns-in-5
    (λ c.
    let n = c.before.before.args.n in
    rw c.in-5.is (closed-product n 4 1 120 _ _ (omega arith) c.before.four-f.ensures.0 (sym (falling-one (n - 4))) refl (omega arith)
    (omega (arith, five c))))
    -- returns-in-6
    (λ c.
    let n = c.before.before.before.args.n in
    rw c.before.in-6.is (closed-product n 4 2 720 _ _ (omega arith) c.before.before.four-f.ensures.0 c.pair.ensures.0 refl (omega arith)
    (omega (arith, six c))))
    -- returns-in-7
    (λ c.
    let n = c.before.before.before.args.n in
    let u : n - 4 - 2 ≡ n - 6 = omega arith in
    let p : c.pair-in-7.result * (n - 6) ≡ falling (n - 4) 3 = cc (u, c.pair-in-7.ensures.0, falling-one (n - 6), falling-add (n - 4) 2 1) in
    rw c.before.in-7.is (closed-product n 4 3 5040 _ _ (omega arith) c.before.before.four-f.ensures.0 p refl (omega arith)
    (omega (arith, seven c))))
    -- returns-in_default
    (λ c.
    let a = c.before.before.before.args in
    let e : a.e ≡ 8 = omega arith in
    rw e (closed-product a.n 4 4 40320 _ _ (omega arith) c.before.before.four-f.ensures.0 c.four.ensures.0 refl (omega arith)
    (omega (arith, eight c)))))
