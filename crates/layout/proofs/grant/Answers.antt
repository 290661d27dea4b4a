use Rattle.std.proofs.Common.{◌∙◌}
use Rattle.code.specs.Shape.{first_of}
use Rattle.shapes.specs.Outlines.{outlined}
use Rattle.layout.proofs.Reply.{refused, first-stored, first-refused}
use Rattle.layout.proofs.grant.Goals as goal

pub returns-then-g-low : goal.returns-then-g-low
returns-then-g-low c =
    let s = outlined c.args.f c.args.v.now in
    let crowded = c.later_counts-low.ensures.crowded c.if-g-low.true in
    c.refuse.ensures ∙ refused s c.requires.g_value.0 c.all_ones-e.ensures.0 (crowded c.all_ones-e.result (first_of s))

pub returns-then-g-x : goal.returns-then-g-x
returns-then-g-x c =
    let B = c.later_counts-low.ensures in
    let room = c.if-g-low.false in
    c.refuse-then-g-x.ensures
    ∙ first-refused (outlined c.args.f c.args.v.now) c.requires.g_value.0 c.all_ones-e.ensures.0 (B.stored room) (B.some room) c.first_count-x.ensures c.if-g-x.true

pub returns : goal.returns
returns c =
    let B = c.later_counts-low.ensures in
    let room = c.if-g-low.false in
    first-stored (outlined c.args.f c.args.v.now) c.requires.g_value.0 c.all_ones-e.ensures.0 (B.stored room) (B.some room) c.first_count-x.ensures c.if-g-x.false
    c.requires.bounds.0.t-high
