-- The values of the first i words are laid.
use Rattle.words.specs.Marks.{blanks_to}
use Rattle.words.proofs.Laying.{Laid}
use mathlib.Core.Path.{◌≡◌}
use Rattle.words.proofs.lay_digits.Given as goal

abbrev pub invariant-loop-i : goal.invariant-loop-i
invariant-loop-i l = (l.at ≡ blanks_to l.m l.i l.fn.words) × Laid l.m l.values l.fn.words l.i l.words
