use Rattle.std.proofs.Common.{[], ◌-◌, length}
use Rattle.code.specs.declared.Kind.TheVariants.{New}
use Rattle.code.specs.Dump.{own_layouts}
use Rattle.records.specs.Source.{source_of}
use Rattle.moves.specs.Kept.{SaysOld}
use Rattle.moves.proofs.Storing.{Measuring}
use Rattle.moves.proofs.to_old.measure.Given as goal

abbrev pub invariant-loop-head : goal.invariant-loop-head
invariant-loop-head l = Measuring own_layouts [] New l.dump l.at l.total × SaysOld (source_of New l.dump l.places) l.kept

abbrev pub decreases-loop-head : goal.decreases-loop-head
decreases-loop-head l = length l.dump - l.at
