use Rattle.std.proofs.Common.{◌*◌}
use Rattle.text.specs.Within.{PutWithin}
use Rattle.handbook.specs.Rows.{entries_text}
use Rattle.handbook.proofs.put_entries.Given as goal

abbrev pub invariant-loop-k : goal.invariant-loop-k
invariant-loop-k l = PutWithin (21 * l.k) l.initial.out l.out l.at (entries_text l.n l.k) l.place
