use Rattle.std.proofs.Common.{take}
use Rattle.code.specs.Numerals.{numerals_of}
use Rattle.storing.specs.Put.{Put}
use Rattle.numerals.proofs.write_numbers.Given as goal

abbrev pub invariant-loop-number : goal.invariant-loop-number
invariant-loop-number l = Put l.fn.out l.out l.at (numerals_of (take l.number-index l.numbers)) l.place
