use Rattle.std.proofs.lemmas.Result.{err_from_is_err_and}
use Rattle.hextext.proofs.Checking.{imports-wrong, imports-short, imports-right}
use Rattle.hextext.proofs.hex_import.Goals as goal

pub returns-in_err-all : goal.returns-in_err-all
returns-in_err-all c =
    let p = err_from_is_err_and c.from_residual.result c.from_residual.ensures.1 in
    let w = imports-wrong _ c.args.out.now _ c.in_err-all.ensures in
    rw (p.1, p.2) record { result_value = w.0; out_after = w.1 }

pub returns-then-out-all : goal.returns-then-out-all
returns-then-out-all c =
    let w = imports-short _ _ _ c.in_ok-all.ensures c.if-out-all.true in
    record { result_value = w.0; out_after = w.1 }

pub returns : goal.returns
returns c =
    let w = imports-right _ _ c.in_ok-all.ensures c.if-out-all.false (c.put_all_data.ensures c.in_ok-all.ensures) in
    record { result_value = w.0; out_after = w.1 }
