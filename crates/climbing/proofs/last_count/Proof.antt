-- `climbing::last_count` meets its contract. Assumes nothing.
use Prim.Native.Nat.{◌+◌, ◌-◌, ◌*◌}
use native.Mathlib.Omega.{arith}
use Rattle.counting.proofs.Laws.{small_product}
use Rattle.climbing.proofs.Last.{square-small, Last, last-begin, last-grows, last_turn, last-odd, last-even}
use Rattle.climbing.proofs.last_count.Statement.{statement}
use Rattle.climbing.proofs.last_count.Tie as tie

abbrev invariant-loop : tie.invariant-loop-p
invariant-loop e v square x₀ p₀ x p = Last e v x p

abbrev decreases-loop : tie.decreases-loop-p
decreases-loop e v square x₀ p₀ x p = v + 1 - p

pub last_count_spec : {M : Type 1} → statement M
last_count_spec =
    tie.close
    (tie.spec
    invariant-loop
    decreases-loop
    -- overflow_mul-square
    (λ c. omega (arith, square-small c.args.e (omega arith)))
    -- loop-p-init
    (λ c. last-begin c.args.e c.args.v (omega arith) (omega arith))
    -- overflow_mul-p
    (λ c.
    let e = c.args.e in
    omega (arith, small_product 225 c.loop-p.p (e * e) (omega arith) (square-small e (omega arith))))
    -- overflow_add-x
    (λ c. omega (arith, c.loop-p.invariant.far))
    -- loop-p-smaller
    (λ c.
    let a = c.args in
    let s = c.loop-p in
    omega (arith, last-grows a.e a.v s.x s.p (omega arith) (omega arith) s.invariant))
    -- loop-p-preserved
    (λ c.
    let a = c.args in
    let s = c.loop-p in
    last_turn a.e a.v s.x s.p (omega arith) (omega arith) s.invariant (omega arith))
    -- overflow_mul-v
    (λ c. let a = c.args in omega (arith, small_product 15 a.v a.e (omega arith) (omega arith)))
    -- overflow_add-result
    (λ c. omega (arith, c.loop-p.invariant.near))
    -- returns-then-v-e
    (λ c.
    let a = c.args in
    let s = c.loop-p in
    last-odd a.e a.v s.x s.p (omega arith) (omega arith) s.invariant (omega arith))
    -- overflow_add-result-2
    (λ c. omega (arith, c.loop-p.invariant.near))
    -- returns
    (λ c.
    let a = c.args in
    let s = c.loop-p in
    last-even a.e a.v s.x s.p (omega arith) (omega arith) s.invariant (omega arith) (omega arith)))
