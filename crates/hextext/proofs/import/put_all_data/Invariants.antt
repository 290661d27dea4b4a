use Rattle.std.proofs.Common.{◌-◌, ◌≤◌, length, Ok}
use Rattle.hextext.specs.Answers.{Counts}
use Rattle.hextext.proofs.Checking.{DataStored}
use Rattle.hextext.proofs.import.put_all_data.Given as goal

abbrev pub invariant-loop-done : goal.invariant-loop-done
invariant-loop-done l =
    (l.at ≤ length l.text) × (l.done ≤ l.all) × (Counts l.text (Ok l.all) → DataStored l.initial.out l.text l.out l.at l.done l.all)

abbrev pub decreases-loop-done : goal.decreases-loop-done
decreases-loop-done l = length l.text - l.at
