use Rattle.std.proofs.Common.{take, drop}
use Rattle.layout.specs.Fields.{shape_of}
use Rattle.many.proofs.Going.{Going}
use Rattle.many.proofs.write_fields.Given as goal

abbrev pub invariant-loop-j : goal.invariant-loop-j
invariant-loop-j l = Going (shape_of l.f) l.numbers l.initial.cells l.cells (take 64 l.rows) (drop 64 l.rows) l.j
