-- `reporting::gather_bits` meets its contract. Assumes nothing.
use mathlib.Core.Path.{◌≡◌}
use native.Mathlib.Omega.{arith}
use Rattle.words.specs.Words.{word_groups}
use Rattle.reporting.proofs.Gathering.{gathering-none, gathering-small, gathering-more}
use Rattle.reporting.proofs.gather_bits.Goals as goal

pub loop-init : goal.loop-init
loop-init c = gathering-none _ _

pub overflow_mul-bits : goal.overflow_mul-bits
overflow_mul-bits c = omega (arith, gathering-small c.loop.invariant (omega arith) (omega arith) c.requires.2 (omega arith))

pub overflow_add-bits : goal.overflow_add-bits
overflow_add-bits c = omega (arith, gathering-small c.loop.invariant (omega arith) (omega arith) c.requires.2 (omega arith))

pub loop-preserved : goal.loop-preserved
loop-preserved c = gathering-more c.loop.invariant (omega arith) (omega arith) c.requires.2 (omega arith)

pub returns : goal.returns
returns c = let e : word_groups c.args.m ≡ c.loop.counter = omega arith in rw e c.loop.invariant.done
