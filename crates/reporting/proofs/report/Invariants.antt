-- The first i words are reported.
use Rattle.reporting.proofs.Reporting.{Reporting}
use Rattle.reporting.proofs.report.Given as goal

abbrev pub invariant-loop-i : goal.invariant-loop-i
invariant-loop-i l = Reporting l.m l.before l.after l.i l.bits l.count
