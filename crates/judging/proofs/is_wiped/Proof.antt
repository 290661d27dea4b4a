-- `judging::is_wiped` meets its contract. Assumes nothing.
use mathlib.Core.Path.{◌∙◌}
use borrow.Author.Rules.{rules}
use Rattle.code.specs.Judge.{wiped}
use Rattle.judging.proofs.Verdicts.{wiped-later}
use Rattle.judging.proofs.is_wiped.Statement.{statement}
use Rattle.judging.proofs.is_wiped.Tie as tie

pub is_wiped_spec : {M : Type 1} → statement M
unfolding wiped
is_wiped_spec =
    tie.close
    (tie.spec
    -- returns-then-place-eq0
    (λ c. rw c.if-place-eq0.true)
    -- is-wiped-requires
    (λ c κs. search rules)
    -- returns
    (λ c. c.is_wiped.ensures ∙ wiped-later _ _ _ _ c.if-place-eq0.false))
