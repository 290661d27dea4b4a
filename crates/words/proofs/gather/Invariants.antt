-- The marked groups of the first i words are gathered.
use Rattle.words.proofs.Gathering.{Gathering}
use Rattle.words.proofs.gather.Given as goal

abbrev pub invariant-loop-i : goal.invariant-loop-i
invariant-loop-i l = Gathering l.m l.n l.words l.marks l.i l.right l.labels l.values l.k
