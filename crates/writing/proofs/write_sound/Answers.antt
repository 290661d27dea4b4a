use Rattle.std.proofs.Common.{ap, arith, refl}
use Rattle.std.proofs.lemmas.Result.{err_from_is_err_and}
use Rattle.code.specs.declared.Generation.{Generation}
use Rattle.writing.proofs.Rewriting.{aims, takes-it, storable-as, writes-late, writes_as, writes-not}
use Rattle.writing.proofs.write_sound.Goals as goal

pub returns-in_err-i : goal.returns-in_err-i
returns-in_err-i c =
    let p = c.requires in
    let e = err_from_is_err_and c.from_residual.result c.from_residual.ensures.1 in
    rw (e.1, e.2) (writes-not p.0 c.args.x _ p.2 p.1 c.look_at-seen.ensures.looked _ c.in_err-i.ensures)

pub generation_at-g-requires : goal.generation_at-g-requires
generation_at-g-requires c =
    let p = c.requires in
    let A = aims p.0 c.args.x _ p.2 p.1 c.look_at-seen.ensures.looked _ c.in_ok-i.ensures in
    (p.0, A.low)

pub returns-then-g-x : goal.returns-then-g-x
returns-then-g-x c =
    let p = c.requires in
    let A = aims p.0 c.args.x _ p.2 p.1 c.look_at-seen.ensures.looked _ c.in_ok-i.ensures in
    writes-late p.0 c.args.x _ p.2 p.1 c.look_at-seen.ensures.looked A (rw (ap (λ (g : Generation). g.range) c.generation_at-g.ensures) at c.if-g-x.true)

pub write_at-turned-requires : goal.write_at-turned-requires
write_at-turned-requires c =
    let p = c.requires in
    let K = c.look_at-seen.ensures in
    let A = aims p.0 c.args.x _ p.2 p.1 K.looked _ c.in_ok-i.ensures in
    let q = c.generation_at-g.ensures in
    let b = rw (ap (λ (g : Generation). g.range) q) at c.if-g-x.false in
    (takes-it p.0 c.args.x _ p.2 p.1 K.looked A b q refl refl refl refl, K.marks_len, storable-as p.0 c.args.x _ p.2 p.1 K.looked A b q)

pub overflow_add-result : goal.overflow_add-result
overflow_add-result c =
    let p = c.requires in
    let A = aims p.0 c.args.x _ p.2 p.1 c.look_at-seen.ensures.looked _ c.in_ok-i.ensures in
    omega (arith, A.low, p.0.bounds.t-high)

pub returns : goal.returns
returns c =
    let p = c.requires in
    let K = c.look_at-seen.ensures in
    let A = aims p.0 c.args.x _ p.2 p.1 K.looked _ c.in_ok-i.ensures in
    let q = c.generation_at-g.ensures in
    let b = rw (ap (λ (g : Generation). g.range) q) at c.if-g-x.false in
    writes_as p.0 c.args.x _ p.2 p.1 K.looked A b q _ _ (c.write_at-turned.ensures.fact c.args.v.now)
