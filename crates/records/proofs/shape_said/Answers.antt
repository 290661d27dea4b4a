use Rattle.records.specs.Source.{source_of}
use Rattle.records.specs.Head.{said_shape}
use Rattle.records.proofs.shape_said.Goals as goal

pub returns-in-Old : goal.returns-in-Old
unfolding said_shape source_of
returns-in-Old c = rw c.in-Old.is c.form_zero.ensures

pub returns-in-New : goal.returns-in-New
unfolding said_shape source_of
returns-in-New c = rw c.in-New.is c.listed_shape.ensures
