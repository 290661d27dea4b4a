-- `cells::put_part` meets its contract. Assumes nothing.
use Prim.Native.Nat.{◌+◌}
use mathlib.Core.Path.{◌≡◌, refl}
use native.Mathlib.Omega.{arith}
use Rattle.cells.proofs.Putting.{putting-first, putting-more, putting-all}
use Rattle.cells.proofs.put_part.Goals as goal

pub loop-i-init : goal.loop-i-init
loop-i-init c = putting-first c.ranges.x.fits c.put_one.ensures

pub put_one-requires-in-loop-i : goal.put_one-requires-in-loop-i
put_one-requires-in-loop-i c = omega (arith, c.bytes_ahead.ensures.inside, c.loop-i.invariant.done.long)

pub loop-i-preserved : goal.loop-i-preserved
loop-i-preserved c = putting-more _ c.loop-i.invariant (omega (arith, c.bytes_ahead.ensures.near)) refl c.put_one-in-loop-i.ensures

pub returns : goal.returns
returns c =
    let e : c.loop-i.i ≡ c.args.at + c.bytes_ahead.result = omega (arith, c.bytes_ahead.ensures.some) in
    putting-all _ _ _ _ _ c.ranges.x.fits c.requires.none c.loop-i.invariant (rw e c.bytes_ahead.ensures)
