-- `words::bits::Groups::open` meets its contract. Assumes nothing.
use Prim.Native.Nat.{◌-◌, ◌^◌}
use native.Mathlib.Omega.{arith}
use Rattle.words.specs.Marks.{erased_group}
use Rattle.words.proofs.Masks.{word-parts}
use Rattle.words.proofs.bits.Groups.open.Goals as goal

pub overflow_sub-result : goal.overflow_sub-result
overflow_sub-result c = let g = c.args.self in omega (arith, word-parts g.m c.args.w (erased_group (2 ^ g.m - 1)), c.erased.ensures, g.marked)

pub returns : goal.returns
returns c = let g = c.args.self in omega (arith, word-parts g.m c.args.w (erased_group (2 ^ g.m - 1)), c.erased.ensures, g.marked)
