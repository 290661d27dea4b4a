-- The sum as far as j.
use Rattle.counting.specs.Sums.{SumSoFar}
use Rattle.counting.proofs.fewer.Given as goal

abbrev pub invariant-loop-j : goal.invariant-loop-j
invariant-loop-j l = SumSoFar l.b l.s l.first l.k l.p.term l.p.sum l.j
