use Rattle.std.proofs.Common.{refl, arith}
use lib.ListN.{length-take}
use Rattle.code.proofs.LayoutCall.{reply-enough}
use Rattle.answers.proofs.fields.put_layout.Goals as goal

pub slice_bounds-counts-end : goal.slice_bounds-counts-end
slice_bounds-counts-end c = reply-enough _ _ 0 c.in-Ok.counts c.in-Ok.ensures refl

pub slice_bounds-writeln-end : goal.slice_bounds-writeln-end
slice_bounds-writeln-end c =
    let enough = reply-enough _ _ 0 c.in-Ok.counts c.in-Ok.ensures refl in
    simp length-take (omega arith)
