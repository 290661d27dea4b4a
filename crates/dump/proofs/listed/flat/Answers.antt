use Rattle.dump.proofs.Naming.{flat-bare}
use Rattle.dump.proofs.listed.flat.Goals as goal

pub returns-in-Err : goal.returns-in-Err
returns-in-Err c reply bare told = rw c.number.ensures (flat-bare reply c.in-Err.refusal bare (rw c.in-Err.is at told))
