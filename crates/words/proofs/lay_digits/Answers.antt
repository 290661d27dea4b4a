-- `words::lay_digits` meets its contract. Assumes nothing.
use native.Mathlib.Omega.{arith}
use Rattle.words.proofs.Digits.{upto-part}
use Rattle.words.proofs.Laying.{zeros-none, zeros-next, laid_none, laid_more, laid-all, laid-blanks, laid-few}
use Rattle.words.proofs.lay_digits.Goals as goal

pub loop-i-init : goal.loop-i-init
loop-i-init c = (zeros-none _ c.args.words.now, laid_none _ _ _ c.requires.zero_marked.0.long)

pub lay_all-l-requires : goal.lay_all-l-requires
lay_all-l-requires c =
    let p = c.requires.zero_marked in
    let l = c.loop-i in
    let f = laid-few p.0 l.invariant.1 (omega arith) l.at l.invariant.0 in
    record { blanks = (laid-blanks p.0 l.invariant.1 (omega arith), p.1, omega arith); upto = upto-part _ _ _ _ _ f c.requires.upto }

pub loop-i-preserved : goal.loop-i-preserved
loop-i-preserved c =
    let p = c.requires.zero_marked in
    let l = c.loop-i in
    let a = c.lay_all-l.ensures in
    let f = laid-few p.0 l.invariant.1 (omega arith) l.at l.invariant.0 in (
      zeros-next l.invariant.1 (omega (arith, p.0.few)) _ _ l.invariant.0 a.1,
      laid_more l.invariant.1 (omega (arith, p.0.few)) _ _ l.invariant.0 (omega (arith, p.1)) a.0,
    )

pub returns : goal.returns
returns c = laid-all (omega arith) c.loop-i.invariant.1
