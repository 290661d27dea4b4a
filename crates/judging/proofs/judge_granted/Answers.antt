use Rattle.std.proofs.Common.{sym, ◌∙◌}
use Rattle.std.proofs.lemmas.Result.{err_from_is_err_and}
use Rattle.reading.proofs.Looking.{sound-width}
use Rattle.judging.proofs.Verdicts.{judges-3, judges-due, judges-refused, due-most}
use Rattle.judging.proofs.judge_granted.Goals as goal

pub returns-then-not-is_sound : goal.returns-then-not-is_sound
returns-then-not-is_sound c =
    let width = sound-width c.requires c.args.before.now _ (c.order.ensures c.args.v.now) in
    judges-3 c.requires _ _ (sym width ∙ sym c.is_sound.ensures ∙ c.if-not-is_sound.true)

pub look_at-look-requires-clause-granted : goal.look_at-look-requires-clause-granted
look_at-look-requires-clause-granted c =
    (c.requires, sym (sound-width c.requires c.args.before.now _ (c.order.ensures c.args.v.now)) ∙ sym c.is_sound.ensures ∙ c.if-not-is_sound.false)

pub returns-in_err-place : goal.returns-in_err-place
returns-in_err-place c =
    let right = sym (sound-width c.requires c.args.before.now _ (c.order.ensures c.args.v.now)) ∙ sym c.is_sound.ensures ∙ c.if-not-is_sound.false in
    let p = err_from_is_err_and c.from_residual.result c.from_residual.ensures.1 in
    rw (p.1, p.2) (judges-refused c.requires c.args.before.now c.args.after.now right c.look_at-look.ensures.looked _ c.in_err-place.ensures)

pub judge_after-requires : goal.judge_after-requires
judge_after-requires c =
    let right = sym (sound-width c.requires c.args.before.now _ (c.order.ensures c.args.v.now)) ∙ sym c.is_sound.ensures ∙ c.if-not-is_sound.false in
    let K = c.look_at-look.ensures.looked in
    (c.requires, K.holds, due-most c.requires c.args.before.now c.args.after.now right K _ c.in_ok-place.ensures)

pub returns : goal.returns
returns c =
    let right = sym (sound-width c.requires c.args.before.now _ (c.order.ensures c.args.v.now)) ∙ sym c.is_sound.ensures ∙ c.if-not-is_sound.false in
    judges-due c.requires c.args.before.now c.args.after.now right c.look_at-look.ensures.looked _ c.in_ok-place.ensures c.judge_after.ensures
