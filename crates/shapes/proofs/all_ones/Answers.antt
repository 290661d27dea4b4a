-- `shapes::all_ones` meets its contract. Assumes nothing.
use native.Mathlib.Omega.{arith}
use lib.Pow.{pow_mono}
use Rattle.shapes.proofs.all_ones.Goals as goal

pub returns : goal.returns
returns c = omega (arith, c.low_ones.ensures, pow_mono {i = 2} {j = c.args.m} (omega arith), pow_mono {i = c.args.m} {j = 4} (omega arith))
