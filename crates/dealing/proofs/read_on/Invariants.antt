-- The digits of the first i pairs are read on.
use Prim.Native.Nat.{◌*◌, ◌<◌}
use Rattle.counting.specs.Cap.{cap}
use Rattle.dealing.proofs.Telling.{Reading}
use Rattle.dealing.proofs.read_on.Given as goal

abbrev pub invariant-loop-i : goal.invariant-loop-i
invariant-loop-i l = (l.x < cap) × Reading l.b l.k l.d l.values (2 * l.i) l.x
