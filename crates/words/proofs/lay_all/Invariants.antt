-- The values before i are laid.
use Rattle.words.proofs.Digits.{Digits}
use Rattle.words.proofs.lay_all.Given as goal

abbrev pub invariant-loop-left : goal.invariant-loop-left
invariant-loop-left l = Digits l.m l.fn.w.word l.values l.at l.word l.left l.i

abbrev pub decreases-loop-left : goal.decreases-loop-left
decreases-loop-left l = l.left
