use Rattle.writing.proofs.Laying.{stored-groups}
use Rattle.writing.proofs.write_at.Goals as goal

pub returns-clause-fact : goal.returns-clause-fact
returns-clause-fact c v = rw (c.order.ensures v, stored-groups c.erase_and_lay.ensures) at c.store.ensures
