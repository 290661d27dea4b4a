use Rattle.std.proofs.Common.{◌+◌, length, drop}
use Rattle.storing.proofs.Put.{Storing}
use Rattle.storing.proofs.put_bytes.Given as goal

abbrev pub invariant-loop-i : goal.invariant-loop-i
invariant-loop-i l = Storing l.fn.out l.at l.bytes l.out (l.at + l.i) (drop l.i l.bytes) (l.at + length l.bytes)
