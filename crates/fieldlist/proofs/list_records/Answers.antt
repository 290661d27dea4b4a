use mathlib.Core.Path.{◌∙◌}
use native.Mathlib.Omega.{arith}
use Rattle.fieldlist.proofs.Pieces.{handing-begin, next-part, handing-next, handing-end}
use Rattle.fieldlist.proofs.list_records.Goals as goal

pub loop-count-init : goal.loop-count-init
loop-count-init c =
    let r = c.start_listing-s.ensures in
    (r.0, omega arith, handing-begin _ _ c.start_listing-s.result (r.1 ∙ c.requires.1, r.2))

pub hand_out-requires : goal.hand_out-requires
hand_out-requires c = next-part c.loop-count.invariant.2 c.fill-told.ensures

pub returns-in_default : goal.returns-in_default
returns-in_default c = handing-end (rw c.in_default.is at (handing-next c.loop-count.invariant.2 c.fill-told.ensures))

pub loop-count-preserved : goal.loop-count-preserved
loop-count-preserved c =
    let f = c.fill-told.ensures in
    let v = c.loop-count.invariant in
    let onward = rw c.in-Some.is at f.onward in
    (onward.0, omega (arith, f.inside, v.1, onward.1), rw c.in-Some.is at (handing-next v.2 f))
