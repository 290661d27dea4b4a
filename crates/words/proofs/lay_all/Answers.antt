-- `words::lay_all` meets its contract. Assumes nothing.
use native.Mathlib.Omega.{arith}
use Rattle.words.proofs.Digits.{digits-none, digits-room, digits-fits, digits_more, digits-all}
use Rattle.words.proofs.lay_all.Goals as goal

pub loop-left-init : goal.loop-left-init
loop-left-init c = let p = c.requires.blanks in digits-none p.0 p.1 p.2 c.requires.upto

pub bounds-values-i : goal.bounds-values-i
bounds-values-i c = digits-room c.loop-left.invariant (omega arith)

pub put-word-requires : goal.put-word-requires
put-word-requires c =
    let t = c.top-p.ensures in
    (t.1, rw (c.wide.ensures.0, t.0) (digits-fits c.loop-left.invariant (omega arith)))

pub overflow_add-i : goal.overflow_add-i
overflow_add-i c = omega (arith, digits-room c.loop-left.invariant (omega arith))

pub loop-left-preserved : goal.loop-left-preserved
loop-left-preserved c =
    rw (c.strip-left.ensures.0, c.put-word.ensures, c.wide.ensures.0, c.top-p.ensures.0) (digits_more c.loop-left.invariant (omega arith))

pub returns : goal.returns
returns c = digits-all c.loop-left.invariant (omega arith)
