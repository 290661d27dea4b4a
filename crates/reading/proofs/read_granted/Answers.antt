use Rattle.std.proofs.Common.{ap, sym, ◌∙◌, not}
use Rattle.reading.proofs.Looking.{sound-width, reads-3, reads_as}
use Rattle.reading.proofs.read_granted.Goals as goal

pub returns-then-not-is_sound : goal.returns-then-not-is_sound
returns-then-not-is_sound c = reads-3 c.requires c.args.cells.now _ _ (c.order.ensures c.args.v.now) c.is_sound.ensures (ap not c.if-not-is_sound.true)

pub look_at-seen-requires-clause-granted : goal.look_at-seen-requires-clause-granted
look_at-seen-requires-clause-granted c =
    (c.requires, sym (sound-width c.requires c.args.cells.now _ (c.order.ensures c.args.v.now)) ∙ sym c.is_sound.ensures ∙ c.if-not-is_sound.false)

pub returns : goal.returns
returns c =
    let right = sym (sound-width c.requires c.args.cells.now _ (c.order.ensures c.args.v.now)) ∙ sym c.is_sound.ensures ∙ c.if-not-is_sound.false in
    c.answer.ensures ∙ reads_as c.requires c.args.cells.now right _ c.look_at-seen.ensures.looked
