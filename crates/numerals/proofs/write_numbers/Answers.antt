use Rattle.std.proofs.Common.{◌+◌, ◌^◌, arith}
use Rattle.code.specs.Numerals.{numerals_of}
use Rattle.storing.proofs.Put.{put-none, put_then, put-length}
use Rattle.code.proofs.Records.{below_at, numerals-next, length-next, numerals-part}
use Rattle.numerals.proofs.write_numbers.Goals as goal

pub loop-number-init : goal.loop-number-init
unfolding numerals_of
loop-number-init c = put-none _ _

pub write_number-place-requires : goal.write_number-place-requires
write_number-place-requires c =
    let xs = c.args.numbers.now in
    let i = c.loop-number.number-index in
    let t = c.loop-number-test.true in
    (below_at (2 ^ 63) xs i c.requires.0 t, omega (arith, length-next xs i t, numerals-part xs (i + 1), put-length c.loop-number.invariant))

pub loop-number-preserved : goal.loop-number-preserved
loop-number-preserved c =
    rw (numerals-next c.args.numbers.now c.loop-number.number-index c.loop-number-test.true)
    (put_then c.loop-number.invariant c.write_number-place.ensures)
