use Rattle.code.specs.Calls.{filled}
use Rattle.code.specs.Pair.{pair_read_fields}
use Rattle.pairing.proofs.Fields.{read-fields-refused}
use Rattle.pairing.proofs.flat_reading.Goals as goal

pub returns-in-Ok : goal.returns-in-Ok
unfolding filled pair_read_fields
returns-in-Ok c = rw c.in-Ok.is

pub returns-in-Err : goal.returns-in-Err
returns-in-Err c = rw c.in-Err.is (read-fields-refused c.in-Err.refusal c.fields-told.result c.fields-told.ensures)
