-- The number of the bytes so far.
use Prim.Native.Nat.{◌+◌}
use lib.ListN.{length}
use Rattle.cells.specs.Cells.{End}
use Rattle.cells.proofs.Values.{Reading}
use Rattle.cells.proofs.few_bytes.Given as goal

abbrev pub invariant-loop-cell : goal.invariant-loop-cell
invariant-loop-cell l = End (length l.cells) l.at l.end × Reading l.order l.cells l.at (l.at + 1 + l.cell-index) l.x
