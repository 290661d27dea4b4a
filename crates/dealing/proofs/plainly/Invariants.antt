-- The digits behind the first i pairs, and behind the one before those where there is one, are the last.
use Prim.Native.Nat.{◌+◌, ◌*◌, ◌%◌}
use mathlib.Core.Path.{◌≡◌}
use lib.ListN.{length, take}
use Rattle.code.proofs.Chosen.{pattern_most}
use Rattle.dealing.proofs.Drawing.{Spelled}
use Rattle.dealing.proofs.plainly.Given as goal

abbrev pub invariant-loop-i : goal.invariant-loop-i
invariant-loop-i l = (length l.values ≡ pattern_most) × Spelled l.e l.x-2 (take l.s l.values) (l.s % 2 + 2 * l.i) l.x
