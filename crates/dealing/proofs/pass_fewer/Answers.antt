-- `dealing::pass_fewer` meets its contract. Assumes nothing.
use Prim.Native.Nat.{◌*◌, ◌≤◌}
use native.Mathlib.Nat.{mul-le-mul}
use native.Mathlib.Omega.{arith}
use Rattle.dealing.proofs.Drawing.{split-begin}
use Rattle.dealing.proofs.pass_fewer.Goals as goal

pub overflow_mul-p : goal.overflow_mul-p
overflow_mul-p c =
    let d = c.requires.0 in
    omega (arith, mul-le-mul {n₁ = c.args.s} {m₁ = c.args.b} {n₂ = 256} {m₂ = 15} d.places d.few)

pub loop-init : goal.loop-init
loop-init c =
    let a = c.args in
    let d = c.requires.0 in
    let term : a.s * a.b ≤ 3840 = mul-le-mul {n₁ = a.s} {m₁ = a.b} {n₂ = 256} {m₂ = 15} d.places d.few in
    split-begin a.b a.fewest a.s a.n d.lead term d.within c.requires.1
