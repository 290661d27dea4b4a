use Rattle.std.proofs.Common.{◌+◌, ◌^◌, refl, arith}
use Rattle.code.specs.Numerals.{numerals_of}
use Rattle.code.proofs.Records.{below_at, length-next, numerals-part, numerals-few}
use Rattle.numerals.proofs.numbers_length.Goals as goal

pub loop-number-init : goal.loop-number-init
unfolding numerals_of
loop-number-init c = refl

pub number_length-total-requires : goal.number_length-total-requires
number_length-total-requires c = below_at (2 ^ 63) c.args.numbers.now c.loop-number.number-index c.requires.0 c.loop-number-test.true

pub overflow_add-total : goal.overflow_add-total
overflow_add-total c =
    let xs = c.args.numbers.now in
    let i = c.loop-number.number-index in
    omega (arith, length-next xs i c.loop-number-test.true, numerals-part xs (i + 1), numerals-few xs)

pub loop-number-preserved : goal.loop-number-preserved
loop-number-preserved c = omega (arith, length-next c.args.numbers.now c.loop-number.number-index c.loop-number-test.true)
