use Rattle.gorvlime_c.proofs.Laws.{moved-fields, refused-move}
use Rattle.gorvlime_c.proofs.flat_moved.Goals as goal

pub returns-in-Ok : goal.returns-in-Ok
returns-in-Ok c = rw c.in-Ok.is (moved-fields _)

pub returns-in-Err : goal.returns-in-Err
returns-in-Err c = rw c.in-Err.is (refused-move c.in-Err.refusal c.fields-told.result c.fields-told.ensures)
