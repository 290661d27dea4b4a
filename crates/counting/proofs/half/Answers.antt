-- `counting::half` meets its contract. Assumes nothing.
use Prim.Native.Nat.{◌+◌, ◌-◌, ◌*◌, ◌%◌}
use mathlib.Core.Path.{◌≡◌}
use native.Mathlib.Omega.{arith}
use Rattle.counting.proofs.Laws.{two-more}
use Rattle.counting.proofs.half.Goals as goal

pub loop-i-preserved : goal.loop-i-preserved
loop-i-preserved c =
    let s = c.loop-i in
    let j : 2 * (s.i + 1) ≡ 2 * s.i + 2 = omega arith in
    rw (j, s.invariant) (two-more c.args.n (2 * s.i) _ (omega arith) c.pair.ensures.0)

pub onward-requires-2 : goal.onward-requires-2
onward-requires-2 c =
    let e = c.args.e in
    let j : e - e % 2 ≡ 2 * c.loop-i.i = omega arith in
    (omega arith, omega arith, omega arith, omega arith, rw j c.loop-i.invariant)
