-- `words::bits::top_odd` meets its contract. Assumes nothing.
use Rattle.words.proofs.Highest.{top-or-one}
use native.Mathlib.Omega.{arith}
use Rattle.words.proofs.bits.top_odd.Statement.{statement}
use Rattle.words.proofs.bits.top_odd.Tie as tie

pub top_odd_spec : {M : Type 1} → statement M
top_odd_spec =
    tie.close
    (tie.spec
    -- overflow_sub-result
    (λ c. (top-or-one _ c.requires c.ranges.x.fits).0)
    -- returns
    (λ c. ((top-or-one _ c.requires c.ranges.x.fits).1, omega arith)))
