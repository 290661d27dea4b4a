use Rattle.std.proofs.Common.{arith}
use Rattle.code.specs.Shape.{first_of}
use Rattle.shapes.specs.Outlines.{outlined}
use Rattle.code.proofs.LayoutCall.{first-form}
use Rattle.climbing.proofs.Pascal.{least-from}
use Rattle.layout.proofs.first_count.Goals as goal

pub returns : goal.returns
returns c =
    let s = outlined c.args.f c.args.v.now in
    least-from c.args.e (first_of s) _ (first-form s) c.climb.ensures (omega (arith, c.range_at.ensures.0, c.first.ensures.0 s.v))
