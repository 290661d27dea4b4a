use Rattle.std.proofs.Common.{◌∙◌, sym, ap, length, arith}
use Rattle.std.proofs.lemmas.Result.{err_from_is_err_and}
use Rattle.code.specs.declared.Kind.TheVariants.{Old}
use Rattle.code.proofs.Walk.{step-forward}
use Rattle.moves.proofs.Passing.{cells_count, passing-stop}
use Rattle.moves.proofs.Heads.{head-below}
use Rattle.moves.proofs.ToNew.{own-said, number-less, collecting-begin, collecting-next, collecting-end}
use Rattle.moves.proofs.to_new.collect.Goals as goal

pub loop-head-init : goal.loop-head-init
loop-head-init c = collecting-begin _ _ c.requires.0 _ c.requires.1

pub returns-in_err-head : goal.returns-in_err-head
returns-in_err-head c =
    let p = err_from_is_err_and c.from_residual.result c.from_residual.ensures.1 in
    rw (p.1, p.2) (passing-stop c.loop-head.invariant.measured.pass c.in_err-head.field-0.0 (sym c.in_err-head.ensures))

pub keep_layout-layouts-requires : goal.keep_layout-layouts-requires
keep_layout-layouts-requires c = let k = c.loop-head.invariant.keeps in (k.few, k.long)

pub record_length-total-requires : goal.record_length-total-requires
record_length-total-requires c =
    let e = sym (rw c.in-Some.is at c.in_ok-head.ensures) in
    let f = step-forward Old _ _ _ e in
    let serial = (head-below Old _ _ _ _ _ (λ i h. omega (arith, c.type_inv.dump i)) c.requires.0 e).0 in
    ((serial, (omega arith, tt)), omega arith, omega (arith, f.0, f.2))

pub overflow_add-total : goal.overflow_add-total
overflow_add-total c =
    let e = sym (rw c.in-Some.is at c.in_ok-head.ensures) in
    let long = c.record_length-total.ensures _ (cells_count Old _ _ _ e) ∙ ap length (number-less _ _) in
    let next = collecting-next _ _ c.requires.0 c.loop-head.invariant _ e _ long c.keep_layout-layouts.new.kept c.keep_layout-layouts.result
    (λ ls kept. rw (own-said _ _ _) (c.keep_layout-layouts.ensures ls kept)) in
    omega (arith, next.measured.few, step-forward Old _ _ _ e)

pub overflow_add-at : goal.overflow_add-at
overflow_add-at c =
    let e = sym (rw c.in-Some.is at c.in_ok-head.ensures) in
    omega (arith, step-forward Old _ _ _ e)

pub loop-head-smaller : goal.loop-head-smaller
loop-head-smaller c =
    let e = sym (rw c.in-Some.is at c.in_ok-head.ensures) in
    omega (arith, step-forward Old _ _ _ e)

pub loop-head-preserved : goal.loop-head-preserved
loop-head-preserved c =
    let e = sym (rw c.in-Some.is at c.in_ok-head.ensures) in
    let long = c.record_length-total.ensures _ (cells_count Old _ _ _ e) ∙ ap length (number-less _ _) in
    collecting-next _ _ c.requires.0 c.loop-head.invariant _ e _ long _ _ (λ ls kept. rw (own-said _ _ _) (c.keep_layout-layouts.ensures ls kept))

pub returns : goal.returns
returns c = collecting-end _ _ c.requires.0 c.loop-head.invariant (sym (rw c.in_default.is at c.in_ok-head.ensures))
