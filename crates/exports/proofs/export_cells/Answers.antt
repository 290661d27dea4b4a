use Rattle.std.proofs.Common.{◌≡◌, ◌≤◌, length, refl, sym, ◌∙◌, arith}
use Rattle.std.proofs.lemmas.Result.{err_from_is_err_and}
use Rattle.code.specs.Cells.{sound}
use Rattle.code.specs.Shape.{order_of, width_of}
use Rattle.shapes.specs.Outlines.{outlined}
use Rattle.code.specs.Export.{record_of}
use Rattle.layout.proofs.Planning.{laid-granted}
use Rattle.exports.proofs.Exports.{export-refused, export-spoiled, export-crowded, export-made, front-made}
use Rattle.exports.proofs.export_cells.Goals as goal

pub returns-in_err-lay_into : goal.returns-in_err-lay_into
returns-in_err-lay_into c =
    let p = err_from_is_err_and c.from_residual.result c.from_residual.ensures.1 in
    rw (p.1, p.2) (export-refused _ _ _ _ _ c.in_err-lay_into.ensures)

pub is_sound-requires : goal.is_sound-requires
is_sound-requires c =
    let G = laid-granted _ c.in_ok-lay_into.ensures in
    (G.bounds.m-high, G.small 0)

pub returns-then-not-is_sound : goal.returns-then-not-is_sound
unfolding width_of
returns-then-not-is_sound c =
    let G = laid-granted _ c.in_ok-lay_into.ensures in
    let s = outlined c.args.f c.args.v.now in
    let told : c.is_sound.result ≡ sound (order_of s) s.m (width_of s) c.args.cells.now = rw (G.each 0, c.order.ensures c.args.v.now) at c.is_sound.ensures in
    export-spoiled _ _ _ _ G.ok (sym told ∙ c.if-not-is_sound.true)

pub record_length-requires : goal.record_length-requires
record_length-requires c = (c.requires.0 (laid-granted _ c.in_ok-lay_into.ensures).bounds, omega (arith, c.requires.1), omega arith)

pub returns-then-out-record_length : goal.returns-then-out-record_length
unfolding width_of
returns-then-out-record_length c =
    let G = laid-granted _ c.in_ok-lay_into.ensures in
    let s = outlined c.args.f c.args.v.now in
    let told : c.is_sound.result ≡ sound (order_of s) s.m (width_of s) c.args.cells.now = rw (G.each 0, c.order.ensures c.args.v.now) at c.is_sound.ensures in
    export-crowded _ _ _ _ G.ok (sym told ∙ c.if-not-is_sound.false) (omega (arith, c.record_length.ensures _ refl))

pub put_record-requires-clause-below : goal.put_record-requires-clause-below
put_record-requires-clause-below c = (c.requires.0 (laid-granted _ c.in_ok-lay_into.ensures).bounds, omega arith)

pub returns : goal.returns
unfolding width_of
returns c =
    let G = laid-granted _ c.in_ok-lay_into.ensures in
    let s = outlined c.args.f c.args.v.now in
    let told : c.is_sound.result ≡ sound (order_of s) s.m (width_of s) c.args.cells.now = rw (G.each 0, c.order.ensures c.args.v.now) at c.is_sound.ensures in
    let room : length (record_of c.args.head.now c.args.cells.now) ≤ length c.args.out.now = omega (arith, c.record_length.ensures _ refl) in
    front-made _ _ _ _ c.put_record.ensures room (export-made _ _ _ _ G.ok (sym told ∙ c.if-not-is_sound.false) room)
