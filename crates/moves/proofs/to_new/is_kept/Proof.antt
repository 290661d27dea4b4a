-- `moves::to_new::is_kept` meets its contract. Assumes nothing.
use borrow.Author.Rules.{rules}
use Rattle.moves.proofs.Keeping.{unlike-v, unlike-t, unlike-m, by_form}
use Rattle.moves.proofs.to_new.is_kept.Statement.{statement}
use Rattle.moves.proofs.to_new.is_kept.Tie as tie

pub is_kept_spec : {M : Type 1} → statement M
is_kept_spec =
    tie.close
    (tie.spec
    (λ c. search rules)
    (λ c. search rules)
    (λ c. search rules)
    (λ c. search rules)
    -- returns-then-kept-first
    (λ c. unlike-v _ _ _ _ _ c.if-kept-first.true)
    (λ c. search rules)
    (λ c. search rules)
    (λ c. search rules)
    -- returns-then-kept-first-2
    (λ c. unlike-t _ _ _ _ _ c.if-kept-first-2.true)
    (λ c. search rules)
    (λ c. search rules)
    (λ c. search rules)
    -- returns-then-kept-first-3
    (λ c. unlike-m _ _ _ _ _ c.if-kept-first-3.true)
    (λ c. search rules)
    (λ c. search rules)
    -- returns
    (λ c.
    by_form _ _ _ _ _ c.if-kept-first.false c.if-kept-first-2.false c.if-kept-first-3.false))
