use Rattle.code.proofs.Refused.{fields-told}
use Rattle.many.proofs.write_and_tell.Goals as goal

pub returns-in-Some-clause-made_after : goal.returns-in-Some-clause-made_after
returns-in-Some-clause-made_after c =
    let t = fields-told c.in-Err.stop.refusal c.fields-told.result c.fields-told.ensures in
    rw (t.0, t.1, t.2) (rw c.in-Some.is at c.in-Err.ensures.rows_after)

pub returns-in_default-clause-made_after : goal.returns-in_default-clause-made_after
returns-in_default-clause-made_after c =
    let t = fields-told c.in-Err.stop.refusal c.fields-told.result c.fields-told.ensures in
    rw (t.0, t.1, t.2, c.requires) (rw c.in_default.is at c.in-Err.ensures.rows_after)
