-- The last groups are gathered, as many as turns were made.
use Rattle.reporting.proofs.Gathering.{Gathering}
use Rattle.reporting.proofs.gather_bits.Given as goal

abbrev pub invariant-loop : goal.invariant-loop
invariant-loop l = Gathering l.m l.flags l.left l.bits l.counter
