use Rattle.std.proofs.Common.{◌≡◌, ◌∙◌, sym, ap, []}
use Rattle.std.proofs.lemmas.Result.{err_from_is_err_and}
use Rattle.moves.specs.Passes.{refused_by}
use Rattle.moves.proofs.ToOld.{old-halted, old-own, old-refused, old-room, old-stored, foreign-listed}
use Rattle.moves.proofs.to_old.move_records.Goals as goal

pub returns-in_err-total-clause-result_value : goal.returns-in_err-total-clause-result_value
returns-in_err-total-clause-result_value c =
    let p = err_from_is_err_and c.from_residual.result c.from_residual.ensures.1 in
    let m = old-halted c.args.dump.now c.args.out.now c.in_err-total.field-0.0 c.in_err-total.ensures in
    rw (p.1, p.2) m.0

pub returns-in_err-total-clause-out_after : goal.returns-in_err-total-clause-out_after
returns-in_err-total-clause-out_after c =
    let m = old-halted c.args.dump.now c.args.out.now c.in_err-total.field-0.0 c.in_err-total.ensures in
    m.1

pub returns-then-has_foreign-clause-result_value : goal.returns-then-has_foreign-clause-result_value
returns-then-has_foreign-clause-result_value c =
    let told = c.has_foreign.ensures ∙ foreign-listed _ _ _ c.requires in
    let m = old-own c.args.dump.now c.args.out.now c.in_ok-total.ensures.0 (sym told ∙ c.if-has_foreign.true) in
    m.0

pub returns-then-has_foreign-clause-out_after : goal.returns-then-has_foreign-clause-out_after
returns-then-has_foreign-clause-out_after c =
    let told = c.has_foreign.ensures ∙ foreign-listed _ _ _ c.requires in
    let m = old-own c.args.dump.now c.args.out.now c.in_ok-total.ensures.0 (sym told ∙ c.if-has_foreign.true) in
    m.1

pub returns-in_err-test_length-clause-result_value : goal.returns-in_err-test_length-clause-result_value
returns-in_err-test_length-clause-result_value c =
    let w = c.in_ok-total.ensures in
    let passes = sym (c.has_foreign.ensures ∙ foreign-listed _ _ _ c.requires) ∙ c.if-has_foreign.false in
    let p = err_from_is_err_and c.from_residual-in_err-test_length.result c.from_residual-in_err-test_length.ensures.1 in
    let m = old-refused c.args.dump.now c.args.out.now w.0 passes _ _ w.1 c.test_length.ensures _ c.in_err-test_length.was in
    rw (p.1, p.2) m.0

pub returns-in_err-test_length-clause-out_after : goal.returns-in_err-test_length-clause-out_after
returns-in_err-test_length-clause-out_after c =
    let w = c.in_ok-total.ensures in
    let passes = sym (c.has_foreign.ensures ∙ foreign-listed _ _ _ c.requires) ∙ c.if-has_foreign.false in
    let m = old-refused c.args.dump.now c.args.out.now w.0 passes _ _ w.1 c.test_length.ensures _ c.in_err-test_length.was in
    m.1

pub returns-clause-result_value : goal.returns-clause-result_value
returns-clause-result_value c =
    let w = c.in_ok-total.ensures in
    let passes = sym (c.has_foreign.ensures ∙ foreign-listed _ _ _ c.requires) ∙ c.if-has_foreign.false in
    let none : refused_by c.test_length.result ≡ [] = ap refused_by c.in_ok-test_length.was in
    let room = old-room c.args.dump.now c.args.out.now w.0 passes _ _ w.1 c.test_length.ensures none in
    let m = old-stored c.args.dump.now c.args.out.now w.0 passes _ _ w.1 c.test_length.ensures none (c.put_records.ensures w.0 room) in
    m.0

pub returns-clause-out_after : goal.returns-clause-out_after
returns-clause-out_after c =
    let w = c.in_ok-total.ensures in
    let passes = sym (c.has_foreign.ensures ∙ foreign-listed _ _ _ c.requires) ∙ c.if-has_foreign.false in
    let none : refused_by c.test_length.result ≡ [] = ap refused_by c.in_ok-test_length.was in
    let room = old-room c.args.dump.now c.args.out.now w.0 passes _ _ w.1 c.test_length.ensures none in
    let m = old-stored c.args.dump.now c.args.out.now w.0 passes _ _ w.1 c.test_length.ensures none (c.put_records.ensures w.0 room) in
    m.1
