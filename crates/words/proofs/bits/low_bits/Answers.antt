-- `words::bits::low_bits` meets its contract. Assumes nothing.
use mathlib.Core.Path.{◌≡◌}
use native.Mathlib.Omega.{arith}
use Rattle.words.specs.Words.{word_bytes, word_groups}
use Rattle.words.specs.Marks.{lows}
use Rattle.words.proofs.bits.low_bits.Goals as goal

pub returns-then-m-eq2 : goal.returns-then-m-eq2
unfolding lows word_groups word_bytes
returns-then-m-eq2 c = rw c.if-m-eq2.true

pub returns-then-m-eq3 : goal.returns-then-m-eq3
unfolding lows word_groups word_bytes
returns-then-m-eq3 c = rw c.if-m-eq3.true

pub returns : goal.returns
unfolding lows word_groups word_bytes
returns c = let e : c.args.m ≡ 4 = omega arith in rw e
