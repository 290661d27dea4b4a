-- The climb as far as the sum, which did not reach before.
use Rattle.climbing.specs.Climb.{Climbed, Short}
use Rattle.counting.specs.Cap.{cap}
use Prim.Native.Nat.{◌-◌}
use Rattle.climbing.proofs.climb_on.Given as goal

abbrev pub invariant-loop-s : goal.invariant-loop-s
invariant-loop-s l = Climbed l.b l.low l.s.d l.s.all l.s.more l.s.scale × Short l.b l.low l.need l.s.d

abbrev pub decreases-loop-s : goal.decreases-loop-s
decreases-loop-s l = cap - l.s.d
