-- `dealing::leap` meets its contract. Assumes nothing.
use native.Mathlib.Omega.{arith}
use Rattle.dealing.proofs.Drawing.{leaped}
use Rattle.dealing.proofs.leap.Goals as goal

pub loop-near-preserved : goal.loop-near-preserved
loop-near-preserved c =
    let s = c.loop-near in
    (omega arith, leaped 6 _ _ s.near.label s.near.fit _ s.invariant.1 c.binomial-fit.ensures (omega arith))
