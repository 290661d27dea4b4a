-- As many of the highest ones are off as turns were made.
use mathlib.Core.Path.{◌≡◌}
use Rattle.words.specs.Marks.{stripped}
use Rattle.words.proofs.bits.skip.Given as goal

abbrev pub invariant-loop : goal.invariant-loop
invariant-loop l = l.left ≡ stripped l.counter l.x
