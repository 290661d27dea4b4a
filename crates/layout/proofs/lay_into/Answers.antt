use Rattle.std.proofs.Common.{sym, ◌∙◌}
use Rattle.code.proofs.LayoutCall.{reply-outside}
use Rattle.shapes.proofs.Ranges.{outside-by-outline}
use Rattle.layout.proofs.lay_into.Goals as goal

pub returns-then-outline_outside : goal.returns-then-outline_outside
returns-then-outline_outside c =
    rw c.requires (reply-outside _ _ (outside-by-outline _ (sym c.outline_outside.ensures ∙ c.if-outline_outside.true) c.args.v.now _))
