use Rattle.std.proofs.Common.{◌∙◌, ap}
use Rattle.code.specs.Refusals.{number_of}
use Rattle.dump.proofs.Walking.{halt-told}
use Rattle.gorvlime_c.proofs.Laws.{opened-fields, opened-halted}
use Rattle.gorvlime_c.proofs.flat_opened.Goals as goal

pub returns-in-Ok : goal.returns-in-Ok
returns-in-Ok c = rw c.in-Ok.is (opened-fields _ _)

pub returns-in-Err : goal.returns-in-Err
returns-in-Err c =
    let number = c.number.ensures ∙ ap number_of c.from.ensures ∙ halt-told c.in-Err.halt in
    rw (c.in-Err.is, number, c.offset.ensures) (opened-halted c.in-Err.halt)
