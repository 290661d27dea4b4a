use Rattle.std.proofs.Common.{◌≡◌, ◌+◌, ◌-◌, arith}
use Rattle.storing.proofs.Put.{fitting-all, put-unfit, fits-room}
use Rattle.moves.specs.Passes.{cells_at}
use Rattle.moves.proofs.Passing.{part-long}
use Rattle.moves.proofs.put_moved.Goals as goal

pub returns-then-not-fits : goal.returns-then-not-fits
returns-then-not-fits c =
    let h = c.args.head in
    let told = c.fits.ensures (cells_at c.args.dump.now h) (part-long c.args.dump.now h.start h.count c.requires.head_in_bounds.0) in
    put-unfit _ _ _ told c.if-not-fits.true

pub returns : goal.returns
returns c =
    let h = c.args.head in
    let told = c.fits.ensures (cells_at c.args.dump.now h) (part-long c.args.dump.now h.start h.count c.requires.head_in_bounds.0) in
    let room = fits-room _ c.args.place _ told c.requires.head_in_bounds.1 c.if-not-fits.false in
    let many : h.start + h.count - h.start ≡ h.count = omega arith in
    rw (fitting-all _ _ _ room) (rw many at c.put_record.ensures)
