-- `words::bits::skip` meets its contract. Assumes nothing.
use mathlib.Core.Path.{refl}
use native.Mathlib.Omega.{arith}
use Rattle.words.specs.Marks.{stripped}
use Rattle.words.proofs.Highest.{stripped-some, stripped-xor}
use Rattle.words.proofs.bits.skip.Goals as goal

pub loop-init : goal.loop-init
unfolding stripped
loop-init c = refl

pub top_odd-requires : goal.top_odd-requires
top_odd-requires c = rw c.loop.invariant (stripped-some _ _ c.ranges.x.fits (omega arith))

pub loop-preserved : goal.loop-preserved
loop-preserved c = rw (c.top_odd.ensures.0, c.loop.invariant) (stripped-xor _ _ c.ranges.x.fits (omega arith))
