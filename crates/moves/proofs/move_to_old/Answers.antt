use Rattle.std.proofs.lemmas.Result.{err_from_is_err_and}
use Rattle.moves.proofs.Passing.{opened-stops}
use Rattle.moves.proofs.ToOld.{old-halted}
use Rattle.moves.proofs.move_to_old.Goals as goal

pub returns-in_err-opened-clause-result_value : goal.returns-in_err-opened-clause-result_value
returns-in_err-opened-clause-result_value c =
    let p = err_from_is_err_and c.from_residual.result c.from_residual.ensures.1 in
    let m = old-halted c.args.dump.now c.args.out.now c.in_err-opened.field-0.0 (opened-stops c.«open».ensures c.in_err-opened.was) in
    rw (p.1, p.2) m.0

pub returns-in_err-opened-clause-out_after : goal.returns-in_err-opened-clause-out_after
returns-in_err-opened-clause-out_after c =
    let m = old-halted c.args.dump.now c.args.out.now c.in_err-opened.field-0.0 (opened-stops c.«open».ensures c.in_err-opened.was) in
    m.1
