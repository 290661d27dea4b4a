use Rattle.std.proofs.Common.{arith, Some}
use Rattle.dump.proofs.Walking.{places-few}
use Rattle.listing.specs.Listing.{Onward}
use Rattle.listing.proofs.Telling.{filling-begin, filling-next, filling-over, filling-end}
use Rattle.listing.proofs.fill.Goals as goal

pub loop-out-init : goal.loop-out-init
loop-out-init c =
    (c.requires.2, filling-begin _ _ _ _ c.requires.1, c.none-kept.ensures _ (places-few c.args.kind _ _ (omega arith)))

pub returns-in_default : goal.returns-in_default
returns-in_default c = filling-over c.loop-out.invariant.1 (omega arith) c.tell_step-told.ensures c.in_default.is

pub loop-out-preserved : goal.loop-out-preserved
loop-out-preserved c = (
  c.requires.2,
  filling-next c.loop-out.invariant.1 (omega arith) c.tell_step-told.ensures _ c.in-Some.is,
  c.step_kept-step.ensures.keeps,
)

pub loop-out-smaller : goal.loop-out-smaller
loop-out-smaller c =
    let next = filling-next c.loop-out.invariant.1 (omega arith) c.tell_step-told.ensures _ c.in-Some.is in
    let onward : Onward c.loop-out.s (Some c.in-Some.listing) = rw c.in-Some.is at c.tell_step-told.ensures.onward in
    omega (arith, next.standing.within, onward.1)

pub returns : goal.returns
returns c = filling-end c.loop-out.invariant.1 (omega arith)
