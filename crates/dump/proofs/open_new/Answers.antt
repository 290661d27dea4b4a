use Rattle.dump.proofs.Walking.{new-opened}
use Rattle.dump.proofs.open_new.Goals as goal

pub returns : goal.returns
returns c = new-opened c.«open».result c.«open».ensures
