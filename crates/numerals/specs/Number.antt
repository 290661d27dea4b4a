-- Document 01, "Dumps" (RULES 7): what reading numbers of a dump answers.
use Rattle.std.specs.Prelude.{ℕ, ◌+◌, List, Option, None, Some}
use Rattle.code.specs.Numerals.{Numeral, malformed, numeral}
use Rattle.code.specs.Numerals as Numerals
use Rattle.numerals.specs.declared.Number.{Number}

-- of the numeral that stands at a place: its value and the place behind it
abbrev pub number_of : ℕ → Numeral → Option Number
number_of at malformed = None
number_of at (numeral x n) = Some (record { value = x; next = at + n })

-- of the numbers that are stored: these and the place behind them, or that they are cut off
abbrev pub numbers_of : List ℕ → Option ℕ → Numerals.Numbers
numbers_of xs None = Numerals.cut
numbers_of xs (Some end) = Numerals.numbers xs end
