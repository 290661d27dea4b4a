use Rattle.std.proofs.lemmas.Result.{err_from_is_err_and}
use Rattle.moves.proofs.Passing.{opened-stops, opened-begins, begins-old}
use Rattle.moves.proofs.ToNew.{new-halted}
use Rattle.moves.proofs.move_to_new.Goals as goal

pub returns-in_err-opened-clause-result_value : goal.returns-in_err-opened-clause-result_value
returns-in_err-opened-clause-result_value c =
    let p = err_from_is_err_and c.from_residual.result c.from_residual.ensures.1 in
    let m = new-halted c.args.dump.now c.args.out.now c.in_err-opened.field-0.0 (opened-stops c.«open».ensures c.in_err-opened.was) in
    rw (p.1, p.2) m.0

pub returns-in_err-opened-clause-out_after : goal.returns-in_err-opened-clause-out_after
returns-in_err-opened-clause-out_after c =
    let m = new-halted c.args.dump.now c.args.out.now c.in_err-opened.field-0.0 (opened-stops c.«open».ensures c.in_err-opened.was) in
    m.1

pub move_records-requires : goal.move_records-requires
move_records-requires c = begins-old _ _ _ (opened-begins c.«open».ensures _ c.in_ok-opened.was)
