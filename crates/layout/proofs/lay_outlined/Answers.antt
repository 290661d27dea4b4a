use Rattle.std.proofs.Common.{sym, ◌∙◌}
use Rattle.shapes.specs.Outlines.{outlined}
use Rattle.code.proofs.LayoutCall.{outside-within, reply-outside}
use Rattle.layout.proofs.lay_outlined.Goals as goal

pub returns-then-ranges_outside : goal.returns-then-ranges_outside
returns-then-ranges_outside c = rw c.requires.1 (reply-outside _ _ (sym c.ranges_outside.ensures ∙ c.if-ranges_outside.true))

pub grant-requires-clause-bounds : goal.grant-requires-clause-bounds
grant-requires-clause-bounds c =
    let w = outside-within (outlined c.args.f c.args.v.now) c.args.g (sym c.ranges_outside.ensures ∙ c.if-ranges_outside.false) in
    (w.bounds, w.g-high)
