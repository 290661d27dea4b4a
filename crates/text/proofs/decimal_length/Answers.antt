use Rattle.std.proofs.Common.{ap, length, arith}
use Rattle.code.proofs.Digits.{spelled-last, spelled-longer, spelled-few}
use Rattle.text.proofs.decimal_length.Goals as goal

pub overflow_add-count : goal.overflow_add-count
overflow_add-count c = omega (arith, spelled-few 20 c.args.x)

pub loop-rest-preserved : goal.loop-rest-preserved
loop-rest-preserved c = let s = c.loop-rest in omega (arith, spelled-longer 19 s.rest c.loop-rest-test.true s.invariant.0)

pub returns : goal.returns
returns c = omega (arith, ap length (spelled-last 19 c.loop-rest.rest c.loop-rest-test.false))
