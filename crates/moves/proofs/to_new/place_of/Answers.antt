use Rattle.std.proofs.Common.{sym, ◌∙◌}
use Rattle.moves.proofs.Keeping.{place_none, place_here, place-next}
use Rattle.moves.proofs.to_new.place_of.Goals as goal

pub loop-i-init : goal.loop-i-init
loop-i-init c = place_none _ _

pub returns-then-is_kept : goal.returns-then-is_kept
returns-then-is_kept c = place_here _ _ _ c.loop-i.invariant _ c.loop-i-test.true (sym c.is_kept.ensures ∙ c.if-is_kept.true)

pub loop-i-preserved : goal.loop-i-preserved
loop-i-preserved c = place-next _ _ _ c.loop-i.invariant (sym c.is_kept.ensures ∙ c.if-is_kept.false)
