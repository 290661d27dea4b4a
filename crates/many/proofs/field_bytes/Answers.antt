use Rattle.std.proofs.Common.{arith}
use native.Mathlib.Nat.{mul-le-mul}
use Rattle.code.specs.Shape.{width_of}
use Rattle.code.specs.Many.{field_bytes}
use Rattle.many.proofs.field_bytes.Goals as goal

pub returns : goal.returns
unfolding field_bytes width_of
returns c =
    let G = c.args.f.now.granted in
    (rw (G.each 0), omega (arith, mul-le-mul G.bounds.m-high (G.small 0)))
