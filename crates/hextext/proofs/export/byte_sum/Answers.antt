use Rattle.std.proofs.Common.{◌≡◌, ◌∙◌, sum, rules}
use native.Mathlib.Omega.{arith}
use Rattle.hextext.proofs.Outward.{sum-listed, sum-most}
use Rattle.hextext.proofs.export.byte_sum.Goals as goal

pub returns : goal.returns
returns c =
    let bytes = c.args.bytes.now in
    let e : c.sum.result ≡ sum bytes = search rules in
    (e ∙ sum-listed bytes, omega (arith, sum-listed bytes, sum-most bytes c.type_inv.bytes))
