-- The first i words are the numbers of their wits.
use Prim.Native.Nat.{◌*◌}
use Rattle.cells.proofs.Loading.{Loading}
use Rattle.cells.proofs.load.Given as goal

abbrev pub invariant-loop-i : goal.invariant-loop-i
invariant-loop-i l = Loading l.order l.m l.h l.cells l.words l.size l.i (l.size * l.i)
