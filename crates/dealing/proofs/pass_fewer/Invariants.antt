-- The number is split at the count of written places.
use Rattle.dealing.specs.Split.{Splitting}
use Rattle.dealing.proofs.pass_fewer.Given as goal

abbrev pub invariant-loop : goal.invariant-loop
invariant-loop l = Splitting l.b l.fewest l.s l.n l.p.k l.p.power l.p.term l.p.rest
