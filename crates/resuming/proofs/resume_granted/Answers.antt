use Rattle.std.proofs.Common.{ap, sym, ◌∙◌, not, refl}
use Rattle.code.specs.Calls.{over_range}
use Rattle.reading.proofs.Looking.{sound-width}
use Rattle.resuming.proofs.Resuming.{resumes-3, resumes-6}
use Rattle.resuming.proofs.resume_granted.Goals as goal

pub returns-then-not-is_sound : goal.returns-then-not-is_sound
returns-then-not-is_sound c =
    let f = c.args.f.now in
    resumes-3 f.granted _ _ refl _ _ (c.order.ensures f.v.now) c.is_sound.ensures (ap not c.if-not-is_sound.true)

pub returns-then-o-f : goal.returns-then-o-f
unfolding over_range
returns-then-o-f c =
    let f = c.args.f.now in
    let right = sym (sound-width f.granted _ _ (c.order.ensures f.v.now)) ∙ sym c.is_sound.ensures ∙ c.if-not-is_sound.false in
    resumes-6 f.granted _ _ refl right c.if-o-f.true

pub resume_sound-requires : goal.resume_sound-requires
unfolding over_range
resume_sound-requires c =
    let f = c.args.f.now in
    let right = sym (sound-width f.granted _ _ (c.order.ensures f.v.now)) ∙ sym c.is_sound.ensures ∙ c.if-not-is_sound.false in
    (c.if-o-f.false, right)
