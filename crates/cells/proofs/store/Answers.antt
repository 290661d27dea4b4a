-- `cells::store` meets its contract. Assumes nothing.
use mathlib.Core.Path.{◌≡◌, refl}
use native.Mathlib.Nat.{mul-zero}
use native.Mathlib.Omega.{arith}
use Rattle.cells.proofs.Sizes.{sizes-none, before-last, word-further}
use Rattle.cells.proofs.Storing.{storing-none, storing-more, storing-all}
use Rattle.cells.proofs.store.Goals as goal

pub words_before-last-requires : goal.words_before-last-requires
words_before-last-requires c = (sizes-none c.requires.0 _ refl).inside

pub loop-i-init : goal.loop-i-init
loop-i-init c = rw (mul-zero c.span-size.result) (storing-none _ c.requires.0 _ c.requires.1 _ c.span-size.ensures)

pub loop-i-preserved : goal.loop-i-preserved
loop-i-preserved c =
    let ends = rw (← c.span-size.ensures) at c.words_before-last.ensures in
    rw (word-further c.span-size.result c.loop-i.i)
    (storing-more _ c.requires.0 _ c.requires.1 c.loop-i.invariant _ c.swap_word-n.ensures (before-last c.span-size.result _ _ _ c.loop-i-test.true ends.0))

pub returns : goal.returns
returns c =
    let ends = rw (← c.span-size.ensures) at c.words_before-last.ensures in
    let e : c.loop-i.i ≡ c.words_before-last.result = omega arith in
    storing-all _ c.requires.0 _ c.requires.1 (rw e at c.loop-i.invariant) _ c.swap.ensures ends.1 (λ i l. (c.type_inv.cells i).fits)
