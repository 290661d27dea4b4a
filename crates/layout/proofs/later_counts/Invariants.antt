use Rattle.std.proofs.Common.{◌-◌, ◌<◌, get_or}
use Rattle.code.specs.Shape.{ranges_of}
use Rattle.shapes.specs.Outlines.{outlined}
use Rattle.layout.specs.Tail.{Aimed, Tail}
use Rattle.layout.proofs.later_counts.Given as goal

abbrev pub invariant-loop-i : goal.invariant-loop-i
invariant-loop-i l =
    Tail l.g l.e l.f.t (ranges_of (outlined l.f l.v)) l.i l.low l.h × (0 < l.i) × (0 < l.low) × (l.low < l.g)
    × Aimed (l.e - 1) l.f.form (get_or l.v 0 0) l.goal.need l.goal.cut
