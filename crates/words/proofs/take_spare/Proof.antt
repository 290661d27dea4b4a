-- `words::take_spare` meets its contract. Assumes nothing.
use Rattle.words.proofs.Highest.{stripped-none}
use Rattle.words.specs.Marks.{stripped}
use mathlib.Core.Path.{sym}
use native.Mathlib.Omega.{arith}
use borrow.Author.Rules.{rules}
use Rattle.words.proofs.take_spare.Statement.{statement}
use Rattle.words.proofs.take_spare.Tie as tie

pub take_spare_spec : {M : Type 1} → statement M
take_spare_spec =
    tie.close
    (tie.spec
    -- returns-then-spare-eq0
    (λ c. unfold stripped in search rules)
    (λ c κs. search rules)
    -- returns-then-k-spare
    (λ c.
    let o = c.ones-k.ensures.0 in
    (sym (stripped-none _ _ c.ranges.marks.fits (omega arith)), rw o))
    (λ c κs. search rules)
    -- returns
    (λ c. (c.skip.ensures, omega arith)))
