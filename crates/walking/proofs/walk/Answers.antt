use Rattle.std.proofs.Common.{refl}
use Rattle.dump.proofs.Walking.{opened-barred}
use Rattle.walking.proofs.Rows.{walk_refused}
use Rattle.walking.proofs.walk.Goals as goal

pub returns-in-Err-clause-result_value : goal.returns-in-Err-clause-result_value
returns-in-Err-clause-result_value c = (walk_refused _ _ _ _ c.in-Err.halt (opened-barred c.«open».ensures c.in-Err.is) refl).0

pub returns-in-Err-clause-rows_after : goal.returns-in-Err-clause-rows_after
returns-in-Err-clause-rows_after c = (walk_refused _ _ _ _ c.in-Err.halt (opened-barred c.«open».ensures c.in-Err.is) refl).1
