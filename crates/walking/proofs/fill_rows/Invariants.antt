use Rattle.std.proofs.Common.{◌-◌, length}
use Rattle.records.specs.Source.{source_of}
use Rattle.dump.specs.Kept.{Keeps}
use Rattle.walking.proofs.Rows.{Walking}
use Rattle.walking.proofs.fill_rows.Given as goal

abbrev pub invariant-loop-rows : goal.invariant-loop-rows
invariant-loop-rows l = Keeps (source_of l.kind l.dump l.places) l.kept × Walking l.kind l.dump l.at l.fn.rows l.rows l.next l.done l.place

abbrev pub decreases-loop-rows : goal.decreases-loop-rows
decreases-loop-rows l = length l.rows - l.place
