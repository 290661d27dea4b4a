use Rattle.std.proofs.Common.{◌≡◌}
use Rattle.lines.proofs.HexDisplay.fmt.Given as goal

abbrev pub invariant-loop-part : goal.invariant-loop-part
invariant-loop-part g l = l.part-iterator.size ≡ 32
