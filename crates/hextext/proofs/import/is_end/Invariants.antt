use Rattle.std.proofs.Common.{◌≡◌, ◌<◌, ℕ}
use Rattle.code.specs.Hex.{end_record}
use Rattle.code.proofs.HexLines.{byte_at}
use Rattle.hextext.proofs.import.is_end.Given as goal

-- the bytes so far are those of the end record
abbrev pub invariant-loop-i : goal.invariant-loop-i
invariant-loop-i l = (k : ℕ) → k < l.i → byte_at l.line k ≡ byte_at end_record k
