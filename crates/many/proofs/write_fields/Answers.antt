use Rattle.std.proofs.Common.{◌≡◌, ◌<◌, length, arith}
use Rattle.layout.specs.Fields.{shape_of}
use Rattle.many.proofs.Going.{rows_none, rows_next, going-begin, going_next, going-stop, going_end}
use Rattle.many.proofs.Small.{field-small}
use Rattle.many.proofs.write_fields.Goals as goal

pub loop-j-init : goal.loop-j-init
loop-j-init c = let zeros = rows_none c.requires.rows_value in going-begin _ _ _ _ _ zeros.0 zeros.1

pub overflow_cast-rows : goal.overflow_cast-rows
overflow_cast-rows c =
    record { fits = (field-small (shape_of c.args.f.now) c.args.f.now.granted _ _ _ _ (rw c.requires.fact.0 at c.in-Ok.ensures.result_value)).0 }

pub overflow_cast-rows-in-Ok : goal.overflow_cast-rows-in-Ok
overflow_cast-rows-in-Ok c =
    record { fits = (field-small (shape_of c.args.f.now) c.args.f.now.granted _ _ _ _ (rw c.requires.fact.0 at c.in-Ok.ensures.result_value)).1 }

pub returns-in-Err-clause-rows_after : goal.returns-in-Err-clause-rows_after
returns-in-Err-clause-rows_after c =
    let same = c.requires.fact.0 in
    (going-stop c.loop-j.invariant c.loop-j-test.true _ (rw same at c.in-Err.ensures.cells_after) c.in-Err.refusal (rw same at c.in-Err.ensures.result_value)).0

pub returns-in-Err-clause-cells_after : goal.returns-in-Err-clause-cells_after
returns-in-Err-clause-cells_after c =
    let same = c.requires.fact.0 in
    (going-stop c.loop-j.invariant c.loop-j-test.true _ (rw same at c.in-Err.ensures.cells_after) c.in-Err.refusal (rw same at c.in-Err.ensures.result_value)).1

pub loop-j-preserved : goal.loop-j-preserved
loop-j-preserved c =
    let p = c.requires.fact in
    let l = c.loop-j in
    let low : l.j < 64 = omega (arith, p.1, c.loop-j-test.true) in
    let left = rw p.0 at c.in-Ok.ensures.cells_after in
    let more = going_next l.invariant c.loop-j-test.true _ left _ _ low (rw p.0 at p.2) (rw p.0 at c.in-Ok.ensures.result_value) in
    rows_next l.rows l.j c.in-Ok.made.generation c.in-Ok.made.turned low more

pub returns-clause-rows_after : goal.returns-clause-rows_after
returns-clause-rows_after c =
    let l = c.loop-j in
    let all : l.j ≡ length c.args.numbers.now = omega (arith, l.invariant.few, c.loop-j-test.false) in
    rw all at (going_end l.invariant (omega (arith, c.loop-j-test.false))).0

pub returns-clause-cells_after : goal.returns-clause-cells_after
returns-clause-cells_after c = (going_end c.loop-j.invariant (omega (arith, c.loop-j-test.false))).1
