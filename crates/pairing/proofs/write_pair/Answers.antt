use Rattle.std.proofs.Common.{refl, leb}
use Rattle.std.proofs.lemmas.Result.{err_from_is_err_and}
use Rattle.layout.proofs.Planning.{laid-granted}
use Rattle.pairing.proofs.Sights.{laid_so}
use Rattle.pairing.proofs.PairWrites.{writes-18, first-no-layout, first-unseen, seen-so}
use Rattle.pairing.proofs.write_pair.Goals as goal

pub returns-then-p-clause-result_value : goal.returns-then-p-clause-result_value
returns-then-p-clause-result_value c = (writes-18 c.args.p c.args.number c.args.first.now c.args.second.now c.if-p.true).0

pub returns-then-p-clause-first_after : goal.returns-then-p-clause-first_after
returns-then-p-clause-first_after c = (writes-18 c.args.p c.args.number c.args.first.now c.args.second.now c.if-p.true).1.0

pub returns-then-p-clause-second_after : goal.returns-then-p-clause-second_after
returns-then-p-clause-second_after c = (writes-18 c.args.p c.args.number c.args.first.now c.args.second.now c.if-p.true).1.1

pub returns-in_err-lay_into-clause-result_value : goal.returns-in_err-lay_into-clause-result_value
returns-in_err-lay_into-clause-result_value c =
    let p = err_from_is_err_and c.from_residual.result c.from_residual.ensures.1 in
    let f = c.outline_with-f.ensures.first refl in
    rw (p.1, p.2) (first-no-layout c.args.p c.args.number c.args.first.now c.args.second.now c.if-p.false _ f _ c.in_err-lay_into.ensures).0

pub returns-in_err-lay_into-clause-first_after : goal.returns-in_err-lay_into-clause-first_after
returns-in_err-lay_into-clause-first_after c =
    let f = c.outline_with-f.ensures.first refl in
    (first-no-layout c.args.p c.args.number c.args.first.now c.args.second.now c.if-p.false _ f _ c.in_err-lay_into.ensures).1.0

pub returns-in_err-lay_into-clause-second_after : goal.returns-in_err-lay_into-clause-second_after
returns-in_err-lay_into-clause-second_after c =
    let f = c.outline_with-f.ensures.first refl in
    (first-no-layout c.args.p c.args.number c.args.first.now c.args.second.now c.if-p.false _ f _ c.in_err-lay_into.ensures).1.1

pub see_field-requires : goal.see_field-requires
see_field-requires c = laid-granted _ c.in_ok-lay_into.ensures

pub returns-in_err-held-clause-result_value : goal.returns-in_err-held-clause-result_value
returns-in_err-held-clause-result_value c =
    let p = err_from_is_err_and c.from_residual-in_err-held.result c.from_residual-in_err-held.ensures.1 in
    let f = c.outline_with-f.ensures.first refl in
    let L = laid_so c.args.p _ c.if-p.false f c.in_ok-lay_into.ensures in
    let k = seen-so f (leb c.args.p.v1 c.args.number) c.args.first.now c.see_field.ensures c.in_err-held.was in
    rw (p.1, p.2) (first-unseen c.args.p c.args.number c.args.first.now c.args.second.now c.if-p.false L _ k).0

pub returns-in_err-held-clause-first_after : goal.returns-in_err-held-clause-first_after
returns-in_err-held-clause-first_after c =
    let f = c.outline_with-f.ensures.first refl in
    let L = laid_so c.args.p _ c.if-p.false f c.in_ok-lay_into.ensures in
    let k = seen-so f (leb c.args.p.v1 c.args.number) c.args.first.now c.see_field.ensures c.in_err-held.was in
    (first-unseen c.args.p c.args.number c.args.first.now c.args.second.now c.if-p.false L _ k).1.0

pub returns-in_err-held-clause-second_after : goal.returns-in_err-held-clause-second_after
returns-in_err-held-clause-second_after c =
    let f = c.outline_with-f.ensures.first refl in
    let L = laid_so c.args.p _ c.if-p.false f c.in_ok-lay_into.ensures in
    let k = seen-so f (leb c.args.p.v1 c.args.number) c.args.first.now c.see_field.ensures c.in_err-held.was in
    (first-unseen c.args.p c.args.number c.args.first.now c.args.second.now c.if-p.false L _ k).1.1

pub write_beside-requires : goal.write_beside-requires
write_beside-requires c =
    let f = c.outline_with-f.ensures.first refl in (
      laid_so c.args.p _ c.if-p.false f c.in_ok-lay_into.ensures,
      seen-so f (leb c.args.p.v1 c.args.number) c.args.first.now c.see_field.ensures c.in_ok-held.was,
    )
