use Rattle.std.proofs.Common.{◌^◌, ◌∙◌, sym, ap, subst, [], length, arith}
use Rattle.std.proofs.lemmas.Result.{err_from_is_err_and}
use Rattle.code.specs.declared.Kind.TheVariants.{New}
use Rattle.code.specs.Lists.{Below}
use Rattle.code.specs.Export.{record_of}
use Rattle.code.specs.Dump.{cells_of}
use Rattle.code.proofs.Walk.{step-forward}
use Rattle.records.specs.Source.{source_of}
use Rattle.records.specs.Head.{head_record}
use Rattle.dump.proofs.Walking.{places-few}
use Rattle.moves.specs.Kept.{SaysOld}
use Rattle.moves.proofs.Passing.{cells_count, passing-stop}
use Rattle.moves.proofs.Heads.{head-below}
use Rattle.moves.proofs.Storing.{measuring-begin, measuring-next, measuring-end}
use Rattle.moves.proofs.ToOld.{none-says, old-said, old-at, old-head}
use Rattle.moves.proofs.to_old.measure.Goals as goal

pub loop-head-init : goal.loop-head-init
loop-head-init c =
    (measuring-begin _ _ _ _ _ _ c.requires, subst (SaysOld _) (sym c.say_none-kept.ensures) (none-says _ (places-few New _ _ (omega arith))))

pub returns-in_err-head : goal.returns-in_err-head
returns-in_err-head c =
    let p = err_from_is_err_and c.from_residual.result c.from_residual.ensures.1 in
    rw (p.1, p.2) (passing-stop c.loop-head.invariant.0.pass c.in_err-head.field-0.0 (sym c.in_err-head.ensures))

pub record_length-total-requires : goal.record_length-total-requires
record_length-total-requires c =
    let e = sym (rw c.in-Some.is at c.in_ok-head.ensures) in
    let f = step-forward New _ _ _ e in
    let low = head-below New _ _ _ _ _ (λ i h. omega (arith, c.type_inv.dump i)) c.requires e in
    let same = c.old_numbers.ensures ∙ old-head _ _ c.in-Some.head _ c.renew-kept.ensures.1 c.renew-kept.ensures.0 in
    (subst (Below (2 ^ 63)) (sym same) low, omega (arith, ap length same), omega (arith, f.0, f.2))

pub overflow_add-total : goal.overflow_add-total
overflow_add-total c =
    let e = sym (rw c.in-Some.is at c.in_ok-head.ensures) in
    let same = c.old_numbers.ensures ∙ old-head _ _ c.in-Some.head _ c.renew-kept.ensures.1 c.renew-kept.ensures.0 in
    let cells = cells_of c.args.dump.now (head_record (source_of New c.args.dump.now c.args.places.now) c.in-Some.head) in
    let long = c.record_length-total.ensures cells (cells_count New _ _ _ e) ∙ ap (λ n. length (record_of n cells)) same in
    let next = measuring-next _ _ _ _ _ _ c.requires c.loop-head.invariant.0 _ e _ (long ∙ ap length (old-at [] _ _)) in
    omega (arith, next.few, step-forward New _ _ _ e)

pub overflow_add-at : goal.overflow_add-at
overflow_add-at c =
    let e = sym (rw c.in-Some.is at c.in_ok-head.ensures) in
    omega (arith, step-forward New _ _ _ e)

pub loop-head-smaller : goal.loop-head-smaller
loop-head-smaller c =
    let e = sym (rw c.in-Some.is at c.in_ok-head.ensures) in
    omega (arith, step-forward New _ _ _ e)

pub loop-head-preserved : goal.loop-head-preserved
loop-head-preserved c =
    let e = sym (rw c.in-Some.is at c.in_ok-head.ensures) in
    let same = c.old_numbers.ensures ∙ old-head _ _ c.in-Some.head _ c.renew-kept.ensures.1 c.renew-kept.ensures.0 in
    let cells = cells_of c.args.dump.now (head_record (source_of New c.args.dump.now c.args.places.now) c.in-Some.head) in
    let long = c.record_length-total.ensures cells (cells_count New _ _ _ e) ∙ ap (λ n. length (record_of n cells)) same in
    (measuring-next _ _ _ _ _ _ c.requires c.loop-head.invariant.0 _ e _ (long ∙ ap length (old-at [] _ _)), c.renew-kept.ensures.1)

pub returns : goal.returns
returns c =
    let w = measuring-end _ _ _ _ _ _ c.requires c.loop-head.invariant.0 (sym (rw c.in_default.is at c.in_ok-head.ensures)) in
    (w.0, w.1 ∙ ap length (old-said _))
