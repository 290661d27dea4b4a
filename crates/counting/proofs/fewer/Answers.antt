-- `counting::fewer` meets its contract. Assumes nothing.
use Prim.Native.Nat.{◌*◌, ◌≤◌}
use native.Mathlib.Nat.{mul-le-mul}
use native.Mathlib.Omega.{arith}
use Rattle.code.proofs.Count.{fewer-none}
use Rattle.counting.proofs.Laws.{fewer-one, sum-begin, sum_over, sum-turn, sum-end}
use Rattle.counting.proofs.fewer.Goals as goal

pub returns-then-k-first : goal.returns-then-k-first
returns-then-k-first c = let a = c.args in omega (arith, fewer-none a.b a.s a.first a.k c.if-k-first.true)

pub returns-then-k-eq1 : goal.returns-then-k-eq1
returns-then-k-eq1 c = let a = c.args in rw c.if-k-eq1.true (omega (arith, fewer-one a.b a.s a.first (omega arith)))

pub loop-j-init : goal.loop-j-init
loop-j-init c =
    let a = c.args in
    let term : a.s * a.b ≤ 3840 = mul-le-mul {n₁ = a.s} {m₁ = a.b} {n₂ = 256} {m₂ = 15} (omega arith) (omega arith) in
    sum-begin a.b a.s a.first a.k (omega arith) (omega arith) term

pub returns-then-k-j : goal.returns-then-k-j
returns-then-k-j c =
    let a = c.args in
    let s = c.loop-j in
    sum-end a.b a.s a.first a.k s.p.term s.p.sum s.j s.invariant c.if-k-j.true

pub returns-then-p-ge-CAP : goal.returns-then-p-ge-CAP
returns-then-p-ge-CAP c =
    let a = c.args in
    let s = c.loop-j in
    let far = c.add_next-p.ensures.0 c.if-p-ge-CAP.true in
    omega (arith, sum_over a.b a.s a.first a.k s.p.term s.p.sum s.j s.invariant c.if-k-j.false (omega arith))

pub loop-j-preserved : goal.loop-j-preserved
loop-j-preserved c =
    let a = c.args in
    let s = c.loop-j in
    let sum = c.add_next-p.ensures.1 c.if-p-ge-CAP.false in
    let term = c.add_next-p.ensures.2 c.if-p-ge-CAP.false in
    rw sum (sum-turn a.b a.s a.first a.k s.p.term s.p.sum s.j s.invariant c.if-k-j.false _ term (omega (arith, sum, c.if-p-ge-CAP.false)))
