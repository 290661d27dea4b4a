use Rattle.std.proofs.Common.{sym, ◌∙◌, arith}
use Rattle.moves.proofs.ToOld.{foreign-here, foreign_next, foreign-none}
use Rattle.moves.proofs.to_old.has_foreign.Goals as goal

pub returns-then-shape-gt0 : goal.returns-then-shape-gt0
returns-then-shape-gt0 c =
    sym (c.loop-place.invariant ∙ foreign-here _ _ _ c.loop-place-test.true c.shape_at-shape.ensures c.if-shape-gt0.true)

pub loop-place-preserved : goal.loop-place-preserved
loop-place-preserved c =
    c.loop-place.invariant ∙ foreign_next _ _ _ c.loop-place-test.true c.shape_at-shape.ensures (omega arith)

pub returns : goal.returns
returns c = sym (c.loop-place.invariant ∙ foreign-none _ _ _ c.loop-place-test.false)
