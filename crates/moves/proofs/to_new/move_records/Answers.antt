use Rattle.std.proofs.lemmas.Result.{err_from_is_err_and}
use Rattle.moves.proofs.ToNew.{new-halted}
use Rattle.moves.proofs.to_new.move_records.Goals as goal

pub returns-in_err-total-clause-result_value : goal.returns-in_err-total-clause-result_value
returns-in_err-total-clause-result_value c =
    let p = err_from_is_err_and c.from_residual.result c.from_residual.ensures.1 in
    let m = new-halted c.args.dump.now c.args.out.now c.in_err-total.field-0.0 c.in_err-total.ensures in
    rw (p.1, p.2) m.0

pub returns-in_err-total-clause-out_after : goal.returns-in_err-total-clause-out_after
returns-in_err-total-clause-out_after c =
    let m = new-halted c.args.dump.now c.args.out.now c.in_err-total.field-0.0 c.in_err-total.ensures in
    m.1
