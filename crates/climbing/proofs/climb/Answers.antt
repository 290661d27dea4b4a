-- `climbing::climb` meets its contract. Assumes nothing.
use Prim.Native.Nat.{◌+◌}
use native.Mathlib.Nat.{mul-le-mul}
use native.Mathlib.Omega.{arith}
use Rattle.climbing.proofs.Pascal.{climb-begin, short-begin, may-grow, short-turn, climb-end}
use Rattle.climbing.proofs.climb.Goals as goal

pub overflow_mul-s : goal.overflow_mul-s
overflow_mul-s c = let A = c.requires in omega (arith, mul-le-mul {n₁ = c.args.low + 1} {n₂ = 256} (omega (arith, A.within)) A.few)

pub loop-init : goal.loop-init
loop-init c = let a = c.args in (climb-begin a.b a.low c.requires.within, short-begin a.b a.low a.need (omega (arith, c.requires.some)))

pub returns-then-cut-s : goal.returns-then-cut-s
returns-then-cut-s c = let s = c.loop in climb-end s.invariant.0 c.requires s.invariant.1 c.if-cut-s.true c.reached.ensures

pub grow-s-requires : goal.grow-s-requires
grow-s-requires c = let C = c.loop.invariant.0 in record { b_nonzero = may-grow C c.requires c.if-cut-s.false; climbed = C }

pub loop-preserved : goal.loop-preserved
loop-preserved c =
    let s = c.loop in
    let g = c.grow-s.ensures in
    (g.1, rw g.0 (short-turn s.invariant.0 c.requires c.if-cut-s.false))
