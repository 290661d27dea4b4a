use Rattle.records.specs.Source.{source_of}
use Rattle.records.proofs.read_head.Goals as goal

pub returns-in-Old : goal.returns-in-Old
unfolding source_of
returns-in-Old c = rw c.in-Old.is c.read_own_head.ensures

pub returns-in-New : goal.returns-in-New
unfolding source_of
returns-in-New c = rw c.in-New.is c.read_listed_head.ensures
