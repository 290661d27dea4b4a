use Rattle.std.proofs.Common.{arith}
use Rattle.code.proofs.LayoutCall.{range-single}
use Rattle.layout.proofs.goal_at.Goals as goal

pub returns-then-f-ne2-clause-need_value : goal.returns-then-f-ne2-clause-need_value
returns-then-f-ne2-clause-need_value c =
    let p = c.requires in
    omega (arith, p.aimed.single c.if-f-ne2.true, range-single _ p.bounds.0 c.if-f-ne2.true _ p.bounds.1)
