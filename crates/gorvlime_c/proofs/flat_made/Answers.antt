use Rattle.code.specs.Calls.{filled}
use Rattle.gorvlime_c.proofs.Laws.{refused-made}
use Rattle.gorvlime_c.proofs.flat_made.Goals as goal

pub returns-in-Ok : goal.returns-in-Ok
unfolding filled
returns-in-Ok c = rw c.in-Ok.is

pub returns-in-Err : goal.returns-in-Err
returns-in-Err c = rw c.in-Err.is (refused-made c.in-Err.refusal c.fields-told.result c.fields-told.ensures)
