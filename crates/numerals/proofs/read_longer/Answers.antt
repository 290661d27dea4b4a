use Rattle.std.proofs.Common.{add_assoc, arith}
use Rattle.numerals.proofs.Reading.{reading-begin, reading-cut, reading-zero, reading-last, reading-tenth, reading-next}
use Rattle.numerals.proofs.read_longer.Goals as goal

pub loop-i-init : goal.loop-i-init
loop-i-init c = reading-begin _ _ _ c.requires.0 c.requires.1 c.requires.2

pub returns-then-byte-eq0 : goal.returns-then-byte-eq0
returns-then-byte-eq0 c = rw (reading-zero c.loop-i.invariant c.loop-i-test.true (omega arith))

pub returns-then-byte-lt128 : goal.returns-then-byte-lt128
returns-then-byte-lt128 c =
    let r = c.loop-i.invariant in
    rw (c.from-byte.ensures, reading-last r c.loop-i-test.true (omega arith) (omega arith), ← add_assoc, ← r.place)

pub returns-then-worth-eq-NINTH : goal.returns-then-worth-eq-NINTH
returns-then-worth-eq-NINTH c = rw (reading-tenth c.loop-i.invariant c.loop-i-test.true (omega arith) (omega arith))

pub loop-i-preserved : goal.loop-i-preserved
loop-i-preserved c =
    rw c.from-byte.ensures (reading-next c.loop-i.invariant c.loop-i-test.true (omega arith) (omega (arith, c.type_inv.bytes c.loop-i.i)) (omega arith))

pub returns : goal.returns
returns c = rw (reading-cut c.loop-i.invariant c.loop-i-test.false)
