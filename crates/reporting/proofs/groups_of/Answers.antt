-- `reporting::groups_of` meets its contract. Assumes nothing.
use native.Mathlib.Omega.{arith}
use Rattle.reporting.proofs.Sizes.{groups-two, groups-more}
use Rattle.reporting.proofs.groups_of.Goals as goal

pub returns-then-m-eq2 : goal.returns-then-m-eq2
returns-then-m-eq2 c = groups-two c.args.m c.if-m-eq2.true

pub returns-else-m-eq2 : goal.returns-else-m-eq2
returns-else-m-eq2 c = groups-more c.args.m (omega arith) (omega arith)
