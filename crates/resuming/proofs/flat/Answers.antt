use Rattle.resuming.proofs.Resuming.{refused-fields}
use Rattle.resuming.proofs.flat.Goals as goal

pub returns-in-Err : goal.returns-in-Err
returns-in-Err c = rw c.in-Err.is (refused-fields c.in-Err.refusal c.fields-told.result c.fields-told.ensures)
