use Rattle.std.proofs.Common.{ap, arith, refl}
use Rattle.std.proofs.lemmas.Result.{err_from_is_err_and}
use Rattle.code.specs.declared.Generation.{Generation}
use Rattle.code.proofs.LayoutCall.{fits}
use Rattle.resuming.proofs.Resuming.{words-few, aims, takes-it, storable-as, resumes-late, resumes-as, resumes-not}
use Rattle.resuming.proofs.resume_sound.Goals as goal

pub returns-in_err-i : goal.returns-in_err-i
returns-in_err-i c =
    let p = c.requires in
    let e = err_from_is_err_and c.from_residual.result c.from_residual.ensures.1 in
    rw (e.1, e.2) (resumes-not c.args.f.now.granted c.args.x _ p.1 p.0 c.look_at-seen.ensures.looked _ _ refl c.in_err-i.ensures)

pub generation_at-g-requires : goal.generation_at-g-requires
generation_at-g-requires c =
    let G = c.args.f.now.granted in
    let A = aims G c.args.x _ c.requires.1 c.requires.0 c.look_at-seen.ensures.looked _ c.in_ok-i.ensures in
    (G, A.low)

pub returns-then-g-x : goal.returns-then-g-x
returns-then-g-x c =
    let G = c.args.f.now.granted in
    let p = c.requires in
    let K = c.look_at-seen.ensures.looked in
    let A = aims G c.args.x _ p.1 p.0 K _ c.in_ok-i.ensures in
    let range = rw (ap (λ (g : Generation). g.range) c.generation_at-g.ensures) at c.if-g-x.true in
    resumes-late G c.args.x _ p.1 p.0 K A refl range

pub write_at-turned-requires : goal.write_at-turned-requires
write_at-turned-requires c =
    let G = c.args.f.now.granted in
    let p = c.requires in
    let K = c.look_at-seen.ensures in
    let A = aims G c.args.x _ p.1 p.0 K.looked _ c.in_ok-i.ensures in
    let q = c.generation_at-g.ensures in
    let b = rw (ap (λ (g : Generation). g.range) q) at c.if-g-x.false in
    (takes-it G c.args.x _ p.1 p.0 K.looked A b q refl refl refl refl, K.marks_len, storable-as G c.args.x _ p.1 p.0 K.looked A b q)

pub overflow_add-i : goal.overflow_add-i
overflow_add-i c =
    let G = c.args.f.now.granted in
    let A = aims G c.args.x _ c.requires.1 c.requires.0 c.look_at-seen.ensures.looked _ c.in_ok-i.ensures in
    omega (arith, A.low, G.bounds.t-high)

pub tell-requires : goal.tell-requires
tell-requires c =
    let H = c.look_at-seen.ensures.looked.holds in
    (H.ends.wide, H.ends.narrow, H.ends.few, words-few H.ends (fits _ c.args.f.now.granted.ok), H.long, c.write_at-turned.ensures.carries.long)

pub returns : goal.returns
returns c =
    let G = c.args.f.now.granted in
    let p = c.requires in
    let K = c.look_at-seen.ensures.looked in
    let A = aims G c.args.x _ p.1 p.0 K _ c.in_ok-i.ensures in
    let q = c.generation_at-g.ensures in
    let b = rw (ap (λ (g : Generation). g.range) q) at c.if-g-x.false in
    let laid = c.write_at-turned.ensures in
    resumes-as G c.args.x _ p.1 p.0 K A b q _ _ _ (laid.fact c.args.f.now.v.now) laid.carries c.tell.ensures
