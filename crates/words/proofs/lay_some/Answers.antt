-- `words::lay_some` meets its contract. Assumes nothing.
use Prim.Native.Nat.{◌<◌}
use mathlib.Core.Path.{◌≡◌, refl, ap, subst, ◌∙◌}
use native.Mathlib.Omega.{arith}
use Rattle.words.specs.Marks.{Scattered, top_of}
use Rattle.words.proofs.Patterns.{scattering-none, scattering-more, scattering-fits, scattered-word, ahead-some, ahead_none, label-below, skips, skip-some}
use Rattle.words.proofs.lay_some.Goals as goal

pub loop-i-init : goal.loop-i-init
loop-i-init c = scattering-none c.requires.blanks.0 c.requires.remaining c.requires.blanks.1 c.requires.blanks.2

pub returns-then-label-right : goal.returns-then-label-right
returns-then-label-right c =
    let l = c.loop-i in
    scattered-word l.invariant (ahead-some l.invariant (omega arith) (omega arith) (omega arith) _ _ c.wide-label.ensures.0 refl (omega arith))

-- the next label is below the one before
pub overflow_sub-from : goal.overflow_sub-from
overflow_sub-from c =
    let below = label-below c.loop-i.invariant (omega arith) (omega arith) (omega arith) _ _ c.wide-label.ensures.0 refl in
    omega (arith, below)

pub overflow_sub-from-in-loop-i : goal.overflow_sub-from-in-loop-i
overflow_sub-from-in-loop-i c =
    let below = label-below c.loop-i.invariant (omega arith) (omega arith) (omega arith) _ _ c.wide-label.ensures.0 refl in
    omega (arith, below)

pub skip-left-requires : goal.skip-left-requires
skip-left-requires c =
    let l = c.loop-i in
    omega (arith, skips l.invariant (omega arith) (omega arith) (omega arith) _ _ c.wide-label.ensures.0 refl (omega arith))

-- a zero group is left for it
pub top_odd-place-requires : goal.top_odd-place-requires
top_odd-place-requires c =
    let l = c.loop-i in
    rw c.skip-left.ensures (skip-some l.invariant (omega arith) (omega arith) (omega arith) _ _ c.wide-label.ensures.0 refl (omega arith))

pub put-word-requires : goal.put-word-requires
put-word-requires c =
    let l = c.loop-i in
    let e = c.wide-label.ensures.0 in
    let t = c.top_odd-place.ensures.0 ∙ ap top_of c.skip-left.ensures in
    (c.top_odd-place.ensures.1, scattering-fits l.invariant (omega arith) (omega arith) (omega arith) _ _ e c.wide.ensures.0 (omega arith) _ t)

pub strip-left-requires : goal.strip-left-requires
strip-left-requires c =
    let l = c.loop-i in
    let some : 0 < c.skip-left.result =
    rw c.skip-left.ensures (skip-some l.invariant (omega arith) (omega arith) (omega arith) _ _ c.wide-label.ensures.0 refl (omega arith)) in
    (some, c.top_odd-place.ensures.0)

pub loop-i-preserved : goal.loop-i-preserved
loop-i-preserved c =
    let l = c.loop-i in
    let e = c.wide-label.ensures.0 in
    let s = c.skip-left.ensures in
    let t = c.top_odd-place.ensures.0 ∙ ap top_of s in
    rw (c.strip-left.ensures.0, c.put-word.ensures, s)
    (scattering-more l.invariant (omega arith) (omega arith) (omega arith) _ _ e c.wide.ensures.0 (omega arith) _ t)

pub returns : goal.returns
returns c =
    let e : c.loop-i.i ≡ c.args.p.k = omega arith in
    subst (λ j. Scattered c.args.m c.args.w.word c.args.right c.args.p.labels.now c.args.p.values.now c.args.p.k c.args.at c.args.next c.loop-i.word j) e
    (scattered-word c.loop-i.invariant (ahead_none c.loop-i.invariant (omega arith)))
