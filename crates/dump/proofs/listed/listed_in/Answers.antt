use Rattle.std.proofs.Common.{arith}
use Rattle.records.proofs.Laws.{layouts-many}
use Rattle.dump.proofs.Naming.{listed-none, listed-some}
use Rattle.dump.proofs.listed.listed_in.Goals as goal

pub returns-then-places-number : goal.returns-then-places-number
returns-then-places-number c =
    let a = c.args in
    listed-none _ _ (omega (arith, layouts-many a.dump.now a.places.now))

pub returns : goal.returns
returns c =
    let a = c.args in
    listed-some _ _ _ (omega (arith, layouts-many a.dump.now a.places.now)) c.listed_shape.ensures
