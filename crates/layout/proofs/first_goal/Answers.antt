use Rattle.std.proofs.Common.{arith}
use Rattle.code.proofs.LayoutCall.{single-due}
use Rattle.layout.proofs.first_goal.Goals as goal

pub goal_of-requires : goal.goal_of-requires
goal_of-requires c =
    let b = c.requires.0 in
    (c.requires.1, omega (arith, b.v_high 0 (omega (arith, single-due _ b c.if-f-eq2.false))))
