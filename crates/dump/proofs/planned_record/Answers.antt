use Rattle.dump.proofs.Keeping.{record-told}
use Rattle.dump.proofs.planned_record.Goals as goal

pub returns : goal.returns
returns c source said = record-told _ source _ said c.read_by-outcome.ensures c.part.ensures
