use Rattle.std.proofs.Common.{◌-◌, length}
use Rattle.hextext.proofs.Checking.{Checking}
use Rattle.hextext.proofs.import.check_text.Given as goal

abbrev pub invariant-loop-size : goal.invariant-loop-size
invariant-loop-size l = Checking l.text l.at l.done

abbrev pub decreases-loop-size : goal.decreases-loop-size
decreases-loop-size l = length l.text - l.at
