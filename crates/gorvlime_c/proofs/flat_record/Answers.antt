use Rattle.gorvlime_c.proofs.Laws.{found-record}
use Rattle.gorvlime_c.proofs.flat_record.Goals as goal

pub returns : goal.returns
returns c = found-record c.args.«record» _ _ c.flat-told.ensures
