use Rattle.code.specs.Calls.{filled, write_fields}
use Rattle.code.proofs.Refused.{write-refused}
use Rattle.writing.proofs.flat.Goals as goal

pub returns-in-Ok : goal.returns-in-Ok
unfolding filled write_fields
returns-in-Ok c = rw c.in-Ok.is

pub returns-in-Err : goal.returns-in-Err
returns-in-Err c = rw c.in-Err.is (write-refused c.in-Err.refusal c.fields-told.result c.fields-told.ensures)
