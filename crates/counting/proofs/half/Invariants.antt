-- The binomial as far as 2 · i.
use Prim.Native.Nat.{◌*◌}
use mathlib.Core.Path.{◌≡◌}
use Rattle.code.specs.Count.{choose}
use Rattle.counting.proofs.half.Given as goal

abbrev pub invariant-loop-i : goal.invariant-loop-i
invariant-loop-i l = l.c ≡ choose l.n (2 * l.i)
