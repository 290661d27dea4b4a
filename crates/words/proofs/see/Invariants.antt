-- The first i words are seen.
use Rattle.words.proofs.Seeing.{Viewing}
use Rattle.words.proofs.see.Given as goal

abbrev pub invariant-loop-i : goal.invariant-loop-i
invariant-loop-i l = Viewing l.m l.words l.i l.marks l.zeros l.unerased
