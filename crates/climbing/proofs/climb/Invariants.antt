-- The climb as far as the sum, which did not reach before.
use Rattle.climbing.specs.Climb.{Climbed, Short}
use Rattle.climbing.proofs.climb.Given as goal

abbrev pub invariant-loop : goal.invariant-loop
invariant-loop l = Climbed l.b l.low l.s.d l.s.all l.s.more l.s.scale × Short l.b l.low l.need l.s.d
