use Rattle.std.proofs.Common.{◌≡◌, arith, Ok, Some, None}
use Rattle.dump.proofs.Walking.{record-further}
use Rattle.listing.proofs.Telling.{tells-record, tells-end, tells-stop}
use Rattle.listing.proofs.tell_step.Goals as goal

pub overflow_add-next : goal.overflow_add-next
overflow_add-next c =
    let is : c.args.step ≡ Ok (Some c.in-Ok-Some.record) =
    let field : c.in-Ok-Some.field-0 ≡ Some c.in-Ok-Some.record = rw c.in-Ok-Some.is at c.in-Ok-Some.field-0-is in
    rw field at c.in-Ok-Some.is in
    omega (arith, (record-further _ _ _ c.requires.step_value is).1)

pub returns-in-Ok-Some : goal.returns-in-Ok-Some
returns-in-Ok-Some c =
    let is : c.args.step ≡ Ok (Some c.in-Ok-Some.record) =
    let field : c.in-Ok-Some.field-0 ≡ Some c.in-Ok-Some.record = rw c.in-Ok-Some.is at c.in-Ok-Some.field-0-is in
    rw field at c.in-Ok-Some.is in
    tells-record c.requires.step_value is c.requires.standing.0 c.tell_outcome-end.ensures

pub returns-in-Ok-None : goal.returns-in-Ok-None
returns-in-Ok-None c =
    let is : c.args.step ≡ Ok None =
    let field : c.in-Ok-None.field-0 ≡ None = rw c.in-Ok-None.is at c.in-Ok-None.field-0-is in
    rw field at c.in-Ok-None.is in
    tells-end c.requires.step_value is c.put_last_line-end.ensures

pub returns-in-Err : goal.returns-in-Err
returns-in-Err c = tells-stop c.requires.step_value c.in-Err.is c.put_halt_lines-end.ensures
