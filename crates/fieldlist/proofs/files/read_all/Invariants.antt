use Rattle.std.proofs.Common.{◌≡◌, ◌≤◌, length}
use Rattle.fieldlist.proofs.files.read_all.Given as goal

abbrev pub invariant-loop : goal.invariant-loop
invariant-loop l = (length l.buffer ≡ length l.initial.buffer) × (l.count ≤ length l.buffer)
