use Rattle.std.proofs.Common.{◌∙◌, ap}
use Rattle.code.specs.Refusals.{number_of}
use Rattle.dump.proofs.Walking.{halt-told}
use Rattle.gorvlime_c.proofs.Laws.{found-halted}
use Rattle.gorvlime_c.proofs.no_step.Goals as goal

pub returns : goal.returns
returns c =
    let number = c.number.ensures ∙ ap number_of c.from.ensures ∙ halt-told c.args.halt in
    c.no_record.ensures ∙ rw (number, c.offset.ensures) (found-halted c.args.halt)
