use Rattle.std.proofs.Common.{arith, refl}
use Rattle.records.proofs.Listing.{listing-begin, listing-broken, listing-place, listing-next, listing-end}
use Rattle.records.proofs.list.read_places.Goals as goal

pub loop-i-init : goal.loop-i-init
loop-i-init c = (listing-begin _ _ _ _ c.requires.2, refl)

pub returns-in_err-there : goal.returns-in_err-there
returns-in_err-there c =
    let l = c.loop-i.invariant.0 in
    rw c.from_residual.ensures
    record { reads = listing-broken l _ _ c.read_layout.ensures c.loop-i-test.true c.in_err-there.was; few = tt; long = l.long }

pub overflow_cast-places : goal.overflow_cast-places
overflow_cast-places c = omega (arith, listing-place c.loop-i.invariant.0 _ _ c.read_layout.ensures _ c.in_ok-there.was c.requires.0)

pub loop-i-preserved : goal.loop-i-preserved
loop-i-preserved c =
    let r = c.read_layout.ensures in
    (listing-next c.loop-i.invariant.0 _ _ r _ c.in_ok-there.was c.loop-i-test.true (omega (arith, c.requires.1)), r.long)

pub returns : goal.returns
returns c =
    let l = c.loop-i.invariant.0 in
    record { reads = listing-end l c.loop-i-test.false; few = c.requires.1; long = l.long }
