-- `counting::fewer_on` meets its contract. Assumes nothing.
use native.Mathlib.Omega.{arith}
use Rattle.counting.proofs.Laws.{sum_over, sum-turn, sum-end}
use Rattle.counting.proofs.fewer_on.Goals as goal

pub returns-then-p-ge-CAP : goal.returns-then-p-ge-CAP
returns-then-p-ge-CAP c =
    let a = c.args in
    let s = c.loop-j in
    let far = c.add_next-p.ensures.0 c.if-p-ge-CAP.true in
    omega (arith, sum_over a.b a.s a.first a.k s.p.term s.p.sum s.j s.invariant (omega arith) (omega arith))

pub loop-j-preserved : goal.loop-j-preserved
loop-j-preserved c =
    let a = c.args in
    let s = c.loop-j in
    let sum = c.add_next-p.ensures.1 c.if-p-ge-CAP.false in
    let term = c.add_next-p.ensures.2 c.if-p-ge-CAP.false in
    rw sum (sum-turn a.b a.s a.first a.k s.p.term s.p.sum s.j s.invariant (omega arith) _ term (omega (arith, sum, c.if-p-ge-CAP.false)))

pub returns : goal.returns
returns c = let a = c.args in let s = c.loop-j in sum-end a.b a.s a.first a.k s.p.term s.p.sum s.j s.invariant (omega arith)
