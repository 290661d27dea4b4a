-- `cells::load` meets its contract. Assumes nothing.
use mathlib.Core.Path.{◌≡◌, refl}
use native.Mathlib.Nat.{mul-zero}
use native.Mathlib.Omega.{arith}
use Rattle.cells.proofs.Sizes.{storable, sizes-none, before-last, word-further}
use Rattle.cells.proofs.Loading.{loading-none, loading-more, loading-all}
use Rattle.cells.proofs.load.Goals as goal

pub words_before-last-requires : goal.words_before-last-requires
words_before-last-requires c = (sizes-none (storable c.requires.0) _ refl).inside

pub loop-i-init : goal.loop-i-init
loop-i-init c = rw (mul-zero c.span-size.result) (loading-none c.requires.0 _ _ c.requires.1 c.span-size.ensures)

pub loop-i-preserved : goal.loop-i-preserved
loop-i-preserved c =
    let ends = rw (← c.span-size.ensures) at c.words_before-last.ensures in
    rw (word-further c.span-size.result c.loop-i.i)
    (loading-more c.requires.0 c.loop-i.invariant _ (before-last c.span-size.result _ _ _ c.loop-i-test.true ends.0) c.word.ensures)

pub returns : goal.returns
returns c =
    let ends = rw (← c.span-size.ensures) at c.words_before-last.ensures in
    let e : c.loop-i.i ≡ c.words_before-last.result = omega arith in
    rw c.low_ones.ensures (loading-all c.requires.0 (rw e at c.loop-i.invariant) _ ends.1 c.any_word.ensures)
