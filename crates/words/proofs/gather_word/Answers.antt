-- `words::gather_word` meets its contract. Assumes nothing.
use Prim.Native.Nat.{ℕ, ◌-◌}
use mathlib.Core.Path.{ap, ◌∙◌}
use native.Mathlib.Omega.{arith}
use Rattle.words.specs.Marks.{less_in}
use Rattle.words.proofs.Filling.{filling-all}
use Rattle.words.proofs.Gathering.{leftover-none, leftover-label, leftover-group, leftover-mask, leftover-less, leftover-room, leftover-more}
use Rattle.words.proofs.gather_word.Goals as goal

pub loop-left-init : goal.loop-left-init
loop-left-init c =
    let p = c.requires.leftover in
    let w = c.requires.w_bound in
    rw c.nonzero.ensures (p, leftover-none _ _ _ p w.1 w.0, leftover-none _ _ _ p w.2 w.0)

pub overflow_add-labels : goal.overflow_add-labels
overflow_add-labels c =
    let x = leftover-label c.loop-left.invariant.0 (omega arith) _ _ _ c.top-p.ensures.0 c.low_ones-below.ensures c.ones.ensures.0 in
    omega (arith, x.1)

pub overflow_cast-labels : goal.overflow_cast-labels
overflow_cast-labels c =
    let x = leftover-label c.loop-left.invariant.0 (omega arith) _ _ _ c.top-p.ensures.0 c.low_ones-below.ensures c.ones.ensures.0 in
    record { fits = x.1 }

pub bounds-labels-i : goal.bounds-labels-i
bounds-labels-i c = leftover-room c.loop-left.invariant.0 (omega arith) c.loop-left.invariant.1

pub overflow_sub-values : goal.overflow_sub-values
overflow_sub-values c = rw (c.at.ensures.0, c.top-p.ensures.0) (leftover-group c.loop-left.invariant.0 (omega arith))

pub bounds-values-i : goal.bounds-values-i
bounds-values-i c = leftover-room c.loop-left.invariant.0 (omega arith) c.loop-left.invariant.1

pub overflow_add-i : goal.overflow_add-i
overflow_add-i c = omega (arith, leftover-room c.loop-left.invariant.0 (omega arith) c.loop-left.invariant.1)

pub loop-left-smaller : goal.loop-left-smaller
loop-left-smaller c = (leftover-mask c.loop-left.invariant.0 (omega arith) _ _ c.top-p.ensures.0 c.low_ones-below.ensures).1

pub loop-left-preserved : goal.loop-left-preserved
loop-left-preserved c =
    let l = c.loop-left in
    let t = c.top-p.ensures.0 in
    let y = c.low_ones-below.ensures in
    let x = leftover-label l.invariant.0 (omega arith) _ _ _ t y c.ones.ensures.0 in
    rw (leftover-mask l.invariant.0 (omega arith) _ _ t y).0 (
      leftover-less l.invariant.0 (omega arith),
      leftover-more l.invariant.0 (omega arith) l.invariant.1 _ x.0,
      leftover-more l.invariant.0 (omega arith) l.invariant.2 _ (ap (λ (x : ℕ). x - 1) c.at.ensures.0 ∙ ap (less_in _ _) t),
    )

pub returns : goal.returns
returns c =
    let l = c.loop-left in
    record {
      added = filling-all (omega (arith, l.invariant.0.wide)) (omega arith) l.invariant.1;
      added_2 = filling-all (omega (arith, l.invariant.0.wide)) (omega arith) l.invariant.2;
    }
