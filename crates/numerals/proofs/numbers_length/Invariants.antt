use Rattle.std.proofs.Common.{◌≡◌, length, take}
use Rattle.code.specs.Numerals.{numerals_of}
use Rattle.numerals.proofs.numbers_length.Given as goal

abbrev pub invariant-loop-number : goal.invariant-loop-number
invariant-loop-number l = l.total ≡ length (numerals_of (take l.number-index l.numbers))
