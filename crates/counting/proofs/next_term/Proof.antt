-- `counting::next_term` meets its contract. Assumes nothing.
use native.Mathlib.Omega.{arith}
use borrow.Author.Rules.{rules}
use Rattle.counting.proofs.Laws.{valued-room, valued-far}
use Rattle.counting.proofs.next_term.Statement.{statement}
use Rattle.counting.proofs.next_term.Tie as tie

pub next_term_spec : {M : Type 1} → statement M
next_term_spec =
    tie.close
    (tie.spec
    -- one-more-requires
    (λ c κs. search rules)
    -- returns-then-q-ge-CAP
    (λ c. omega (arith, valued-far _ c.before.before.args.b (omega arith) c.before.one_more-q.ensures c.if-q-ge-CAP.true))
    -- overflow_mul-q
    (λ c. omega (arith, valued-room _ c.before.before.args.b c.if-q-ge-CAP.false (omega arith)))
    -- clip-requires
    (λ c κs. search rules)
    -- returns
    (λ c. rw c.before.before.one_more-q.ensures at c.clip.ensures))
