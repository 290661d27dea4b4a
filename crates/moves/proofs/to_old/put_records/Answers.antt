use Rattle.std.proofs.Common.{None, Ok, ◌≡◌, ◌^◌, ◌∙◌, sym, ap, subst, length, arith}
use Rattle.code.specs.declared.Kind.TheVariants.{New}
use Rattle.code.specs.Lists.{Below}
use Rattle.code.specs.Dump.{cells_of}
use Rattle.code.specs.NewDump.{entry_head}
use Rattle.code.proofs.Walk.{step-forward}
use Rattle.dump.proofs.Walking.{places-few}
use Rattle.moves.specs.Kept.{SaysOld}
use Rattle.moves.specs.Passes.{cells_at}
use Rattle.moves.proofs.Heads.{head-below}
use Rattle.moves.proofs.Storing.{filling-begin, filling-next, filling-end, filling-stop}
use Rattle.moves.proofs.ToOld.{none-says, old-said, old-head, put_same}
use Rattle.moves.proofs.to_old.put_records.Goals as goal

pub loop-head-init : goal.loop-head-init
loop-head-init c = (
  filling-begin _ _ _ _ _ _ c.requires _ 0 (omega arith),
  subst (SaysOld _) (sym c.say_none-kept.ensures) (none-says _ (places-few New _ _ (omega arith))),
)

pub put_moved-place-requires-clause-below : goal.put_moved-place-requires-clause-below
put_moved-place-requires-clause-below c =
    let e = sym (rw c.in-Ok-Some.field-0-is at c.in-Ok-Some.ensures) in
    let low = head-below New _ _ _ _ _ (λ i h. omega (arith, c.type_inv.dump i)) c.requires e in
    let same = c.old_numbers.ensures ∙ old-head _ _ c.in-Ok-Some.head _ c.renew-kept.ensures.1 c.renew-kept.ensures.0 in
    (subst (Below (2 ^ 63)) (sym same) low, omega (arith, ap length same))

pub put_moved-place-requires-clause-head_in_bounds : goal.put_moved-place-requires-clause-head_in_bounds
put_moved-place-requires-clause-head_in_bounds c =
    let e = sym (rw c.in-Ok-Some.field-0-is at c.in-Ok-Some.ensures) in
    ((step-forward New _ _ _ e).2, c.loop-head.invariant.0.inside)

pub overflow_add-at : goal.overflow_add-at
overflow_add-at c =
    let e = sym (rw c.in-Ok-Some.field-0-is at c.in-Ok-Some.ensures) in
    omega (arith, step-forward New _ _ _ e)

pub loop-head-smaller : goal.loop-head-smaller
loop-head-smaller c =
    let e = sym (rw c.in-Ok-Some.field-0-is at c.in-Ok-Some.ensures) in
    omega (arith, step-forward New _ _ _ e)

pub loop-head-preserved : goal.loop-head-preserved
unfolding entry_head cells_of
loop-head-preserved c =
    let e = sym (rw c.in-Ok-Some.field-0-is at c.in-Ok-Some.ensures) in
    let same = c.old_numbers.ensures ∙ old-head _ _ c.in-Ok-Some.head _ c.renew-kept.ensures.1 c.renew-kept.ensures.0 in
    let made = put_same (cells_at c.args.dump.now c.in-Ok-Some.head) same c.put_moved-place.ensures in
    (filling-next c.loop-head.invariant.0 _ e made, c.renew-kept.ensures.1)

pub returns-in_default : goal.returns-in_default
returns-in_default c w h =
    let none : c.in_default.field-0 ≡ None = cc in
    let told : c.locate.result ≡ Ok None = c.in_default.is ∙ ap Ok none in
    let said = old-said c.args.dump.now in
    rw said at (filling-end c.loop-head.invariant.0 (sym (rw told at c.locate.ensures)) (omega (arith, h, ap length said)))

pub returns-in_default-2 : goal.returns-in_default-2
returns-in_default-2 c w h =
    rw (old-said _) at (filling-stop c.loop-head.invariant.0 w c.in_default.field-0 (sym (rw c.in_default.is at c.locate.ensures)))
