-- `words::erase` meets its contract. Assumes nothing.
use mathlib.Core.Path.{◌≡◌, refl}
use native.Mathlib.Omega.{arith}
use Rattle.words.proofs.Erasing.{wipes-is, wiping-none, wiping-more, wiping-all}
use Rattle.words.proofs.erase.Goals as goal

pub loop-i-init : goal.loop-i-init
loop-i-init c = wiping-none _ _ _ _ (omega arith) (omega arith) (omega arith) (omega arith)

pub overflow_sub-words : goal.overflow_sub-words
overflow_sub-words c =
    let g = c.of-groups.result in
    let w = wipes-is _ g.sized.0 g.sized.1 _ _ _ _ c.zeros.ensures c.take_spare-s.ensures.0 in
    rw g.marked w.below

pub overflow_mul-words : goal.overflow_mul-words
overflow_mul-words c =
    let g = c.of-groups.result in
    let w = wipes-is _ g.sized.0 g.sized.1 _ _ _ _ c.zeros.ensures c.take_spare-s.ensures.0 in
    record { fits = rw (g.marked, g.filled) w.fits }

pub loop-i-preserved : goal.loop-i-preserved
loop-i-preserved c =
    let g = c.of-groups.result in
    let z = rw c.of-groups.ensures at c.zeros.ensures in
    let w = wipes-is _ c.requires.0 c.requires.1 _ _ _ _ z c.take_spare-s.ensures.0 in
    rw (g.marked, g.filled, c.of-groups.ensures) (wiping-more _ _ _ _ c.loop-i.invariant (omega arith) refl z w c.take_spare-s.ensures.1)

pub returns : goal.returns
returns c = let e : c.args.n ≡ c.loop-i.i = omega arith in rw e (wiping-all c.loop-i.invariant)
