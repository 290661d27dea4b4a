-- The first i words are erased.
use Rattle.words.proofs.Erasing.{Wiping}
use Rattle.words.proofs.erase.Given as goal

abbrev pub invariant-loop-i : goal.invariant-loop-i
invariant-loop-i l = Wiping l.m l.spare l.fn.words l.i l.left l.words l.marks
