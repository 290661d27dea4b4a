-- `words::see` meets its contract. Assumes nothing.
use mathlib.Core.Path.{◌≡◌, ap, ◌∙◌}
use native.Mathlib.Omega.{arith}
use lib.Count.{ones}
use Rattle.words.proofs.Seeing.{viewing-none, viewing-more, viewing-all}
use Rattle.words.proofs.see.Goals as goal

pub loop-i-init : goal.loop-i-init
loop-i-init c = viewing-none _ _ _ (omega arith)

pub loop-i-preserved : goal.loop-i-preserved
loop-i-preserved c =
    let e = c.of-groups.ensures in
    let z = c.ones-zeros.ensures.0 ∙ ap ones (rw e at c.zeros.ensures) in
    viewing-more c.loop-i.invariant _ _ _ (omega arith) (omega arith) (omega arith) (rw e at c.open-o.ensures) (z, c.ones-zeros.ensures.1) c.ones-unerased.ensures

pub returns : goal.returns
returns c = let e : c.args.n ≡ c.loop-i.i = omega arith in rw e (viewing-all c.loop-i.invariant)
