-- The limits of a call and of its parts (no rule).
use Rattle.std.specs.Prelude.{ℕ, ◌+◌, ◌≤◌, length}
use Rattle.protocol.specs.declared.calls.Call.{Call}
use Rattle.protocol.specs.declared.calls.Call.TheVariants.{Write, Export, HexExport, HexImport, MoveToNew, MoveToOld, ExportLayout, ExportRecord, WriteMany, Resume, WritePair}

-- the most bytes of a call: an operation, a shape's four numbers and 64 ranges, a count and 128 numbers, a count and 65,537 bytes
abbrev pub call_most : ℕ
call_most = 67122

-- the most bytes that a call has, in one string or in two
abbrev pub bytes_most : ℕ
bytes_most = 65537

-- the most bytes of an output that a call asks for
abbrev pub output_most : ℕ
output_most = 1024

-- the most numbers that a call lists
abbrev pub listed_most : ℕ
listed_most = 128

-- the output that a call asks for, the numbers that it lists and the bytes that it changes are within the limits
abbrev pub Limited : Call → Type 0
Limited (Write shape x cells) = length cells.now ≤ bytes_most
Limited (Export r output cells) = output ≤ output_most
Limited (HexExport output bytes) = output ≤ output_most
Limited (HexImport output bytes) = output ≤ output_most
Limited (MoveToNew output dump) = output ≤ output_most
Limited (MoveToOld output dump) = output ≤ output_most
Limited (ExportLayout shape output) = output ≤ output_most
Limited (ExportRecord r output cells) = output ≤ output_most
Limited (WriteMany shape count cells) = (count ≤ listed_most) × (length cells.now ≤ bytes_most)
Limited (Resume shape x cells) = length cells.now ≤ bytes_most
Limited (WritePair pair x first second) = length first.now + length second.now ≤ bytes_most
Limited _ = Unit {0}
