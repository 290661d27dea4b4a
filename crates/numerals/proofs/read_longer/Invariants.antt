use Rattle.numerals.proofs.Reading.{Reading}
use Rattle.numerals.proofs.read_longer.Given as goal

abbrev pub invariant-loop-i : goal.invariant-loop-i
invariant-loop-i l = Reading l.bytes l.at l.value l.worth l.i
