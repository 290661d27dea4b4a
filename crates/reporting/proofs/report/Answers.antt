-- `reporting::report` meets its contract. Assumes nothing.
use Prim.Native.Nat.{◌*◌}
use mathlib.Core.Path.{◌≡◌, ap}
use native.Mathlib.Omega.{arith}
use Rattle.reporting.proofs.Reporting.{reporting-none, reporting-more}
use Rattle.reporting.proofs.report.Goals as goal

pub loop-i-init : goal.loop-i-init
loop-i-init c = reporting-none _ _ _

pub overflow_add-bits : goal.overflow_add-bits
overflow_add-bits c =
    let at = ap (λ g. g * c.loop-i.i) c.groups_of-groups.ensures in
    let r = reporting-more c.loop-i.invariant c.args.n _ _
    (omega arith) (omega arith) (omega arith) (omega arith) (omega arith) (omega arith) at c.fresh_bits-fresh.ensures in
    omega (arith, r.fits)

pub overflow_add-count : goal.overflow_add-count
overflow_add-count c = omega (arith, c.loop-i.invariant.few)

pub loop-i-preserved : goal.loop-i-preserved
loop-i-preserved c =
    let at = ap (λ g. g * c.loop-i.i) c.groups_of-groups.ensures in
    let r = reporting-more c.loop-i.invariant c.args.n _ _
    (omega arith) (omega arith) (omega arith) (omega arith) (omega arith) (omega arith) at c.fresh_bits-fresh.ensures in
    r.more _ c.ones-count.ensures

pub returns : goal.returns
returns c =
    let e : c.args.n ≡ c.loop-i.i = omega arith in
    record { bits_after = rw e c.loop-i.invariant.made; value = rw e c.loop-i.invariant.told }
