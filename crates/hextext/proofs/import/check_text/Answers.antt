use native.Mathlib.Omega.{arith}
use Rattle.std.proofs.lemmas.Result.{err_from_is_err_and}
use Rattle.hextext.proofs.Checking.{part-is, checking-begin, checking-wrong, checking-more, checking-right, checking-next}
use Rattle.hextext.proofs.import.check_text.Goals as goal

pub loop-size-init : goal.loop-size-init
loop-size-init c = checking-begin _

pub slice_bounds-test_line-count : goal.slice_bounds-test_line-count
slice_bounds-test_line-count c = c.loop-size.invariant.within

pub test_line-requires : goal.test_line-requires
test_line-requires c = let s = c.loop-size.invariant in omega (arith, s.many, s.held.1)

pub returns-in_err-size : goal.returns-in_err-size
returns-in_err-size c =
    let p = err_from_is_err_and c.from_residual.result c.from_residual.ensures.1 in
    rw (p.1, p.2) (checking-wrong c.loop-size.invariant _ (rw (part-is c.args.text.now c.loop-size.at) at c.in_err-size.ensures))

pub returns-then-size-text : goal.returns-then-size-text
returns-then-size-text c =
    let told = rw (c.in-End.is, part-is c.args.text.now c.loop-size.at) at c.in_ok-size.ensures in
    checking-more c.loop-size.invariant _ told c.if-size-text.true

pub returns-in-End : goal.returns-in-End
returns-in-End c =
    let told = rw (c.in-End.is, part-is c.args.text.now c.loop-size.at) at c.in_ok-size.ensures in
    checking-right c.loop-size.invariant _ told c.if-size-text.false

pub overflow_add-done : goal.overflow_add-done
overflow_add-done c =
    let told = rw (c.in-Data.is, part-is c.args.text.now c.loop-size.at) at c.in_ok-size.ensures in
    let n = checking-next c.loop-size.invariant _ _ told in
    omega (arith, n.many, n.held.1)

pub loop-size-smaller : goal.loop-size-smaller
loop-size-smaller c =
    let told = rw (c.in-Data.is, part-is c.args.text.now c.loop-size.at) at c.in_ok-size.ensures in
    let n = checking-next c.loop-size.invariant _ _ told in
    omega (arith, n.within, told.3.1)

pub loop-size-preserved : goal.loop-size-preserved
loop-size-preserved c =
    let told = rw (c.in-Data.is, part-is c.args.text.now c.loop-size.at) at c.in_ok-size.ensures in
    checking-next c.loop-size.invariant _ _ told
