use Rattle.std.proofs.Common.{ap, sym, ◌∙◌, not}
use Rattle.code.specs.Calls.{over_range}
use Rattle.reading.proofs.Looking.{sound-width}
use Rattle.writing.proofs.Rewriting.{writes-3, writes-6}
use Rattle.writing.proofs.write_granted.Goals as goal

pub returns-then-not-is_sound : goal.returns-then-not-is_sound
returns-then-not-is_sound c = writes-3 c.requires _ _ _ _ (c.order.ensures c.args.v.now) c.is_sound.ensures (ap not c.if-not-is_sound.true)

pub returns-then-f-v : goal.returns-then-f-v
unfolding over_range
returns-then-f-v c =
    let right = sym (sound-width c.requires _ _ (c.order.ensures c.args.v.now)) ∙ sym c.is_sound.ensures ∙ c.if-not-is_sound.false in
    writes-6 c.requires _ _ right c.if-f-v.true

pub write_sound-requires : goal.write_sound-requires
unfolding over_range
write_sound-requires c =
    let right = sym (sound-width c.requires _ _ (c.order.ensures c.args.v.now)) ∙ sym c.is_sound.ensures ∙ c.if-not-is_sound.false in
    (c.requires, c.if-f-v.false, right)
