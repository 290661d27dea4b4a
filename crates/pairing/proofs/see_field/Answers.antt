use Rattle.std.proofs.Common.{sym, ◌∙◌}
use Rattle.reading.proofs.Looking.{sound-width}
use Rattle.pairing.proofs.Sights.{sees-3, sees-6, sees-so}
use Rattle.pairing.proofs.see_field.Goals as goal

pub returns-then-not-is_sound : goal.returns-then-not-is_sound
returns-then-not-is_sound c =
    let width = sound-width c.requires c.args.cells.now _ (c.order.ensures c.args.v.now) in
    sees-3 _ _ _ (sym width ∙ sym c.is_sound.ensures ∙ c.if-not-is_sound.true)

pub returns-then-over : goal.returns-then-over
returns-then-over c =
    let right = sym (sound-width c.requires c.args.cells.now _ (c.order.ensures c.args.v.now)) ∙ sym c.is_sound.ensures ∙ c.if-not-is_sound.false in
    sees-6 _ _ _ right c.if-over.true

pub look_at-look-requires-clause-granted : goal.look_at-look-requires-clause-granted
look_at-look-requires-clause-granted c =
    (c.requires, sym (sound-width c.requires c.args.cells.now _ (c.order.ensures c.args.v.now)) ∙ sym c.is_sound.ensures ∙ c.if-not-is_sound.false)

pub returns : goal.returns
returns c =
    let right = sym (sound-width c.requires c.args.cells.now _ (c.order.ensures c.args.v.now)) ∙ sym c.is_sound.ensures ∙ c.if-not-is_sound.false in
    c.tell_sight.ensures ∙ sees-so _ _ _ right c.if-over.false c.look_at-look.ensures.looked
