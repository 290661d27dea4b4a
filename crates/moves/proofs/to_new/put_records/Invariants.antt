use Rattle.std.proofs.Common.{◌-◌, length}
use Rattle.code.specs.declared.Kind.TheVariants.{Old}
use Rattle.code.specs.Dump.{listed_layouts}
use Rattle.moves.specs.Kept.{kept_layouts}
use Rattle.moves.proofs.Storing.{Filling}
use Rattle.moves.proofs.to_new.put_records.Given as goal

abbrev pub invariant-loop-head : goal.invariant-loop-head
invariant-loop-head l =
    let ls = kept_layouts l.layouts l.kept in
    Filling (listed_layouts ls) ls Old l.dump l.fn.out l.first l.out l.at l.place

abbrev pub decreases-loop-head : goal.decreases-loop-head
decreases-loop-head l = length l.dump - l.at
