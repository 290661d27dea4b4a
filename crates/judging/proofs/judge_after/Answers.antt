use Rattle.std.proofs.Common.{sym, ◌∙◌}
use Rattle.reading.proofs.Looking.{sound-width}
use Rattle.judging.proofs.Verdicts.{after-3, after-as}
use Rattle.judging.proofs.judge_after.Goals as goal

pub returns-then-not-is_sound : goal.returns-then-not-is_sound
returns-then-not-is_sound c =
    let width = sound-width c.requires.0 c.args.after.now _ (c.order.ensures c.args.v.now) in
    after-3 c.requires.0 c.requires.1 _ _ (sym width ∙ sym c.is_sound.ensures ∙ c.if-not-is_sound.true)

pub look_at-look-requires-clause-granted : goal.look_at-look-requires-clause-granted
look_at-look-requires-clause-granted c =
    (c.requires.0, sym (sound-width c.requires.0 c.args.after.now _ (c.order.ensures c.args.v.now)) ∙ sym c.is_sound.ensures ∙ c.if-not-is_sound.false)

pub returns : goal.returns
returns c =
    let right = sym (sound-width c.requires.0 c.args.after.now _ (c.order.ensures c.args.v.now)) ∙ sym c.is_sound.ensures ∙ c.if-not-is_sound.false in
    c.tell_verdict.ensures ∙ after-as c.requires.0 c.requires.1 _ _ right c.look_at-look.ensures.looked _ c.is_wiped-wiped.ensures
