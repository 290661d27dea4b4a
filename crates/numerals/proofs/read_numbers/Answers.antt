use Rattle.std.proofs.Common.{arith}
use Rattle.numerals.proofs.Reading.{heading-begin, heading-next, heading-cut, heading-end}
use Rattle.numerals.proofs.read_numbers.Goals as goal

pub loop-number-init : goal.loop-number-init
loop-number-init c = heading-begin _ _ _

pub returns-in_err-value : goal.returns-in_err-value
returns-in_err-value c = rw c.from_residual.ensures (heading-cut c.loop-number.invariant (omega arith) c.in_err-value.ensures)

pub loop-number-preserved : goal.loop-number-preserved
loop-number-preserved c = heading-next c.loop-number.invariant _ (omega arith) c.in_ok-value.ensures

pub returns : goal.returns
returns c = heading-end c.loop-number.invariant (omega arith)
