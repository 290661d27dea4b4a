use Rattle.std.proofs.Common.{◌-◌, length}
use Rattle.moves.proofs.ToNew.{Collecting}
use Rattle.moves.proofs.to_new.collect.Given as goal

abbrev pub invariant-loop-head : goal.invariant-loop-head
invariant-loop-head l = Collecting l.dump l.kept l.at l.total l.layouts

abbrev pub decreases-loop-head : goal.decreases-loop-head
decreases-loop-head l = length l.dump - l.at
