use Rattle.writing.proofs.Laying.{digits_are}
use Rattle.writing.proofs.lay_plain.Goals as goal

pub lay_digits-requires-clause-upto : goal.lay_digits-requires-clause-upto
lay_digits-requires-clause-upto c =
    let a = c.args in
    let p = c.requires in
    let d = digits_are a.e a.places a.x p.e_nonzero.0 p.e_nonzero.3 in
    rw (← p.zero_marked.1, c.plainly.ensures.0, ← p.e_nonzero.2) d.1
