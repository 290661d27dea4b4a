use Rattle.std.proofs.Common.{◌≡◌, refl, arith, Ok, Some, None}
use Rattle.dump.proofs.Walking.{places-few, record-further}
use Rattle.walking.proofs.Rows.{walking-begin, walking-done, walking-next, walking-end, walking-stop, walking-full}
use Rattle.walking.proofs.fill_rows.Goals as goal

pub loop-rows-init : goal.loop-rows-init
loop-rows-init c = (c.none-kept.ensures _ (places-few c.args.kind _ _ (omega arith)), walking-begin _ _ _ _)

pub overflow_add-next : goal.overflow_add-next
overflow_add-next c =
    let told : c.step_kept.result ≡ Ok (Some c.in-Ok-Some.record) = cc in
    omega (arith, (record-further _ _ _ c.step_kept.ensures.step_value told).1)

pub overflow_add-done : goal.overflow_add-done
overflow_add-done c = omega (arith, walking-done c.loop-rows.invariant.1)

pub loop-rows-preserved : goal.loop-rows-preserved
loop-rows-preserved c =
    let told : c.step_kept.result ≡ Ok (Some c.in-Ok-Some.record) = cc in (
      c.step_kept.ensures.keeps,
      walking-next c.loop-rows.invariant.1 c.requires (omega arith) c.step_kept.ensures.step_value told c.put_row-place.ensures,
    )

pub returns-in-Ok-None-clause-result_value : goal.returns-in-Ok-None-clause-result_value
returns-in-Ok-None-clause-result_value c =
    let told : c.step_kept.result ≡ Ok None = cc in
    (walking-end c.loop-rows.invariant.1 c.requires (omega arith) c.step_kept.ensures.step_value told refl).0

pub returns-in-Ok-None-clause-rows_after : goal.returns-in-Ok-None-clause-rows_after
returns-in-Ok-None-clause-rows_after c =
    let told : c.step_kept.result ≡ Ok None = cc in
    (walking-end c.loop-rows.invariant.1 c.requires (omega arith) c.step_kept.ensures.step_value told refl).1

pub returns-in-Err-clause-result_value : goal.returns-in-Err-clause-result_value
returns-in-Err-clause-result_value c =
    (walking-stop c.loop-rows.invariant.1 c.requires (omega arith) c.step_kept.ensures.step_value c.in-Err.is refl).0

pub returns-in-Err-clause-rows_after : goal.returns-in-Err-clause-rows_after
returns-in-Err-clause-rows_after c =
    (walking-stop c.loop-rows.invariant.1 c.requires (omega arith) c.step_kept.ensures.step_value c.in-Err.is refl).1

pub returns-clause-result_value : goal.returns-clause-result_value
returns-clause-result_value c = (walking-full c.loop-rows.invariant.1 c.requires (omega arith) refl).0

pub returns-clause-rows_after : goal.returns-clause-rows_after
returns-clause-rows_after c = (walking-full c.loop-rows.invariant.1 c.requires (omega arith) refl).1
