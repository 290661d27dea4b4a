use Rattle.code.specs.Calls.{filled}
use Rattle.code.specs.Pair.{pair_write_fields}
use Rattle.pairing.proofs.Fields.{write-fields-refused}
use Rattle.pairing.proofs.flat_writing.Goals as goal

pub returns-in-Ok : goal.returns-in-Ok
unfolding filled pair_write_fields
returns-in-Ok c = rw (c.in-Ok.is, c.field_number.ensures)

pub returns-in-Err : goal.returns-in-Err
returns-in-Err c = rw c.in-Err.is (write-fields-refused c.in-Err.refusal c.fields-told.result c.fields-told.ensures)
