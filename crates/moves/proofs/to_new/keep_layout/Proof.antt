-- `moves::to_new::keep_layout` meets its contract. Assumes nothing.
use native.Mathlib.Omega.{arith}
use borrow.Author.Rules.{rules}
use lib.ListN.{length-set}
use Rattle.moves.proofs.Keeping.{keeps-over, keeps-known, keeps-full, keeps-more}
use Rattle.moves.proofs.to_new.keep_layout.Statement.{statement}
use Rattle.moves.proofs.to_new.keep_layout.Tie as tie

pub keep_layout_spec : {M : Type 1} → statement M
keep_layout_spec =
    tie.close
    (tie.spec
    -- returns-then-count-gt-LAYOUTS_MOST
    (λ c ls k. keeps-over k _ (omega arith))
    (λ c κs. search rules)
    (λ c. search rules)
    -- returns-then-place_of-count
    (λ c ls k. keeps-known k (omega arith) _ _ c.place_of.ensures c.if-place_of-count.true)
    (λ c. search rules)
    (λ c. search rules)
    -- returns-then-count-eq-LAYOUTS_MOST
    (λ c ls k. keeps-full k (omega arith) _ _ c.place_of.ensures (omega arith) (omega arith))
    (λ c. search rules)
    (λ c. search rules)
    (λ c. search rules)
    (λ c. search rules)
    (λ c. search rules)
    -- bounds-kept-first-2
    (λ c. simp length-set (omega arith))
    (λ c. search rules)
    (λ c. search rules)
    -- bounds-kept-first-3
    (λ c. simp length-set (omega arith))
    (λ c. search rules)
    (λ c. search rules)
    -- bounds-kept-first-4
    (λ c. simp length-set (omega arith))
    (λ c. search rules)
    -- shape_of-kept
    (λ c. simp length-set)
    -- returns
    (λ c ls k. keeps-more k (omega arith) _ _ _ _ c.place_of.ensures (omega arith) (omega arith)))
