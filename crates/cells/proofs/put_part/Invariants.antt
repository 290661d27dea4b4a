-- The bytes of the number so far are put.
use Rattle.cells.proofs.Putting.{Putting}
use Rattle.cells.proofs.put_part.Given as goal

abbrev pub invariant-loop-i : goal.invariant-loop-i
invariant-loop-i l = Putting l.order l.fn.cells l.cells l.at l.i l.x
