-- `counting::onward` meets its contract. Assumes nothing.
use native.Mathlib.Numerals.{add-one}
use native.Mathlib.Omega.{arith}
use Rattle.counting.proofs.Laws.{next-choose, before-middle}
use Rattle.counting.proofs.onward.Goals as goal

pub returns-then-c-ge-CAP : goal.returns-then-c-ge-CAP
returns-then-c-ge-CAP c = omega (arith, c.loop-j.invariant, before-middle c.args.n c.loop-j.j c.args.e (omega arith) (omega arith))

pub loop-j-preserved : goal.loop-j-preserved
loop-j-preserved c = cc (add-one c.loop-j.j, next-choose c.args.n c.loop-j.j (omega arith))
