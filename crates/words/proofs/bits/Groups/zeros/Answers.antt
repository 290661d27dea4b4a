-- `words::bits::Groups::zeros` meets its contract. Assumes nothing.
use native.Mathlib.Omega.{arith}
use Rattle.words.specs.Marks.{zero_group}
use Rattle.words.proofs.Masks.{word-parts}
use Rattle.words.proofs.bits.Groups.zeros.Goals as goal

pub overflow_sub-result : goal.overflow_sub-result
overflow_sub-result c = let g = c.args.self in omega (arith, word-parts g.m c.args.w zero_group, c.nonzero.ensures, g.marked)

pub returns : goal.returns
returns c = let g = c.args.self in omega (arith, word-parts g.m c.args.w zero_group, c.nonzero.ensures, g.marked)
