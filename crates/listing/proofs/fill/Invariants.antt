use Rattle.std.proofs.Common.{◌-◌, ◌≤◌, length}
use Rattle.records.specs.Source.{source_of}
use Rattle.dump.specs.Answers.{dump_most}
use Rattle.dump.specs.Kept.{Keeps}
use Rattle.listing.specs.Listing.{lines_most}
use Rattle.listing.proofs.Telling.{Filling}
use Rattle.listing.proofs.fill.Given as goal

abbrev pub invariant-loop-out : goal.invariant-loop-out
invariant-loop-out l =
    (lines_most ≤ length l.fn.out) × Filling l.kind l.dump l.fn.start l.fn.out l.out l.s l.end × Keeps (source_of l.kind l.dump l.places) l.kept

abbrev pub decreases-loop-out : goal.decreases-loop-out
decreases-loop-out l = dump_most - l.s.next
