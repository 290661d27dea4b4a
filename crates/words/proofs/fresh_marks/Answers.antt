-- `words::fresh_marks` meets its contract. Assumes nothing.
use native.Mathlib.Omega.{arith}
use Rattle.words.proofs.Fresh.{fresh-groups}
use Rattle.words.proofs.fresh_marks.Goals as goal

pub returns : goal.returns
returns c =
    let a = c.args in
    let e = c.of-groups.ensures in
    fresh-groups a.m a.before a.after c.open.result c.erased.result (omega arith) (omega arith) (rw e at c.open.ensures) (rw e at c.erased.ensures)
