use Rattle.std.proofs.Common.{IsAscii}
use Rattle.lines.proofs.digits_of.Given as goal

abbrev pub invariant-loop-i : goal.invariant-loop-i
invariant-loop-i l = IsAscii l.digits
