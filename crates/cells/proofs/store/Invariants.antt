-- The wits of the first i words are those of the groups.
use Prim.Native.Nat.{◌*◌}
use Rattle.cells.proofs.Storing.{Storing}
use Rattle.cells.proofs.store.Given as goal

abbrev pub invariant-loop-i : goal.invariant-loop-i
invariant-loop-i l = Storing l.order l.m l.h l.fn.cells l.cells l.words l.size l.i (l.size * l.i) l.n
