use Rattle.std.proofs.Common.{◌≡◌, ◌-◌, ◌≤◌, length}
use Rattle.answers.proofs.walks.put_all_records.Given as goal

abbrev pub invariant-loop-text : goal.invariant-loop-text
invariant-loop-text l = (length l.rows ≡ 640) × (l.next ≤ length l.dump.bytes.now)

abbrev pub decreases-loop-text : goal.decreases-loop-text
decreases-loop-text l = length l.dump.bytes.now - l.next
