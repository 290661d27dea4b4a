-- `counting::add_next` meets its contract. Assumes nothing.
use mathlib.Core.Path.{refl}
use native.Mathlib.Omega.{arith}
use borrow.Author.Rules.{rules}
use Rattle.counting.proofs.Laws.{valued-room, valued-far}
use Rattle.counting.proofs.add_next.Statement.{statement}
use Rattle.counting.proofs.add_next.Tie as tie

pub add_next_spec : {M : Type 1} → statement M
add_next_spec =
    tie.close
    (tie.spec
    -- one-more-requires
    (λ c κs. search rules)
    -- returns-then-q-ge-CAP
    (λ c.
    let far = valued-far _ c.before.before.args.b (omega arith) c.before.one_more-q.ensures c.if-q-ge-CAP.true in
    ((λ over. omega arith), (λ under. absurd (omega arith)), (λ under. absurd (omega arith))))
    -- overflow_mul-term
    (λ c. omega (arith, valued-room _ c.before.before.args.b c.if-q-ge-CAP.false (omega arith)))
    -- add-t7
    (λ c. let e = c.before in omega (arith, valued-room _ e.before.before.args.b e.if-q-ge-CAP.false (omega arith)))
    -- returns
    (λ c.
    let next = c.before.before.one_more-q.ensures in
    ((λ over. omega (arith, next)), (λ under. refl), (λ under. next))))
