-- The binomial as far as j.
use mathlib.Core.Path.{◌≡◌}
use Rattle.code.specs.Count.{choose}
use Rattle.counting.proofs.onward.Given as goal

abbrev pub invariant-loop-j : goal.invariant-loop-j
invariant-loop-j l = l.c ≡ choose l.n l.j
