use Rattle.std.proofs.Common.{take}
use Rattle.code.specs.Hex.{hex_digits}
use Rattle.storing.specs.Put.{Put}
use Rattle.hextext.proofs.export.put_all_digits.Given as goal

abbrev pub invariant-loop-byte : goal.invariant-loop-byte
invariant-loop-byte l = Put l.initial.out l.out l.at (hex_digits (take l.byte-index l.bytes)) l.next
