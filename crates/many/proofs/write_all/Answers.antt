use Rattle.std.proofs.Common.{arith, refl}
use Rattle.std.proofs.lemmas.Result.{err_from_is_err_and}
use Rattle.layout.specs.Plan.{ungranted_as}
use Rattle.layout.proofs.Planning.{laid-granted, laid-number, laid-alone}
use Rattle.many.proofs.Refusing.{too_many, no-layout, other_length, written-in-order}
use Rattle.many.proofs.write_all.Goals as goal

pub returns-then-numbers-gt-NUMBERS_MOST-clause-rows_after : goal.returns-then-numbers-gt-NUMBERS_MOST-clause-rows_after
returns-then-numbers-gt-NUMBERS_MOST-clause-rows_after c =
    rw c.into.ensures (too_many _ _ _ c.if-numbers-gt-NUMBERS_MOST.true _ _ refl c.requires).0

pub returns-then-numbers-gt-NUMBERS_MOST-clause-cells_after : goal.returns-then-numbers-gt-NUMBERS_MOST-clause-cells_after
returns-then-numbers-gt-NUMBERS_MOST-clause-cells_after c = (too_many _ _ _ c.if-numbers-gt-NUMBERS_MOST.true _ _ refl c.requires).1

pub returns-in_err-lay_into-clause-rows_after : goal.returns-in_err-lay_into-clause-rows_after
returns-in_err-lay_into-clause-rows_after c =
    let e = err_from_is_err_and c.from_residual.result c.from_residual.ensures.1 in
    let laid = rw c.outline_of-outline.ensures at c.in_err-lay_into.ensures in
    let k = ungranted_as c.in_err-lay_into.field-0.0 in
    rw (e.1, e.2, laid-alone c.args.s 256 k laid)
    (no-layout c.args.s c.args.numbers.now c.args.cells.now (omega (arith, c.if-numbers-gt-NUMBERS_MOST.false)) _ (laid-number c.args.s 256 k laid) _ _ refl c.requires).0

pub returns-in_err-lay_into-clause-cells_after : goal.returns-in_err-lay_into-clause-cells_after
returns-in_err-lay_into-clause-cells_after c =
    let laid = rw c.outline_of-outline.ensures at c.in_err-lay_into.ensures in
    let k = ungranted_as c.in_err-lay_into.field-0.0 in
    (no-layout c.args.s c.args.numbers.now c.args.cells.now (omega (arith, c.if-numbers-gt-NUMBERS_MOST.false)) _ (laid-number c.args.s 256 k laid) _ _ refl c.requires).1

pub invariant_of-field : goal.invariant_of-field
invariant_of-field c = record { granted = laid-granted _ c.in_ok-lay_into.ensures }

pub returns-then-cells-numbers-clause-rows_after : goal.returns-then-cells-numbers-clause-rows_after
returns-then-cells-numbers-clause-rows_after c =
    let same = c.outline_of-outline.ensures in
    let G = laid-granted _ (rw same at c.in_ok-lay_into.ensures) in
    let other = rw (rw same at c.field_bytes-size.ensures.0) at c.if-cells-numbers.true in
    rw c.into-then-cells-numbers.ensures
    (other_length _ _ _ (omega (arith, c.if-numbers-gt-NUMBERS_MOST.false)) G.ok other _ _ refl c.requires).0

pub returns-then-cells-numbers-clause-cells_after : goal.returns-then-cells-numbers-clause-cells_after
returns-then-cells-numbers-clause-cells_after c =
    let same = c.outline_of-outline.ensures in
    let G = laid-granted _ (rw same at c.in_ok-lay_into.ensures) in
    let other = rw (rw same at c.field_bytes-size.ensures.0) at c.if-cells-numbers.true in
    (other_length _ _ _ (omega (arith, c.if-numbers-gt-NUMBERS_MOST.false)) G.ok other _ _ refl c.requires).1

pub returns-clause-rows_after : goal.returns-clause-rows_after
returns-clause-rows_after c =
    let same = c.outline_of-outline.ensures in
    let G = laid-granted _ (rw same at c.in_ok-lay_into.ensures) in
    let long = rw (rw same at c.field_bytes-size.ensures.0) at c.if-cells-numbers.false in
    let w = c.write_fields.ensures in
    (written-in-order _ _ _ (omega (arith, c.if-numbers-gt-NUMBERS_MOST.false)) G.ok long (rw same at w.rows_after, rw same at w.cells_after)).0

pub returns-clause-cells_after : goal.returns-clause-cells_after
returns-clause-cells_after c =
    let same = c.outline_of-outline.ensures in
    let G = laid-granted _ (rw same at c.in_ok-lay_into.ensures) in
    let long = rw (rw same at c.field_bytes-size.ensures.0) at c.if-cells-numbers.false in
    let w = c.write_fields.ensures in
    (written-in-order _ _ _ (omega (arith, c.if-numbers-gt-NUMBERS_MOST.false)) G.ok long (rw same at w.rows_after, rw same at w.cells_after)).1
