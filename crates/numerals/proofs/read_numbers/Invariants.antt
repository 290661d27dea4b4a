use Rattle.std.proofs.Common.{length}
use Rattle.numerals.proofs.Reading.{Heading}
use Rattle.numerals.proofs.read_numbers.Given as goal

abbrev pub invariant-loop-number : goal.invariant-loop-number
invariant-loop-number l = Heading (length l.fn.numbers) l.bytes l.at l.numbers l.end l.number-index
