-- `dealing::unrank` meets its contract. Assumes nothing.
use mathlib.Core.Path.{◌≡◌}
use Prim.Native.Nat.{suc, ◌+◌, ◌-◌, ◌≤◌}
use native.Mathlib.Omega.{arith}
use lib.ListN.{length-set}
use Rattle.counting.proofs.Laws.{choose_one}
use Rattle.dealing.proofs.Drawing.{unrank-begin, unrank-last, enough, stepped, followed, turn}
use Rattle.dealing.proofs.unrank.Goals as goal

pub settle-near-requires : goal.settle-near-requires
settle-near-requires c =
    let a = c.args in
    let p = c.requires.s_bound in
    (omega (arith, enough a.s a.k a.r p.4), p.0, p.1)

pub loop-left-init : goal.loop-left-init
loop-left-init c =
    let a = c.args in
    let p = c.requires.s_bound in
    let x = c.settle-near.ensures in
    let C = x.1 a.r p.3 p.4 in
    let q : a.k + 1 - 1 ≡ a.k = omega arith in
    let z : a.k - a.k ≡ 0 = omega arith in
    record {
      long = c.requires.labels_len;
      some = omega arith;
      within = omega arith;
      near = rw q C;
      ranking = rw (q, z) (unrank-begin a.s a.k a.r _ a.labels.now p.1 x.0 C.high);
    }

pub leap-near-requires : goal.leap-near-requires
leap-near-requires c = (c.loop-left.invariant.within, c.loop-left.invariant.near)

pub loop-near-init : goal.loop-near-init
loop-near-init c = (omega arith, c.leap-near.ensures.1)

-- there is a label below the candidate
pub overflow_sub-near : goal.overflow_sub-near
overflow_sub-near c = omega (arith, enough _ _ _ c.loop-near.invariant.1.high)

pub lower-requires : goal.lower-requires
lower-requires c =
    let C = c.loop-near.invariant.1 in
    (omega arith, enough _ _ _ (rw C.is at c.if-near-r.false), omega arith, C.small, C.is)

pub loop-near-smaller : goal.loop-near-smaller
loop-near-smaller c = omega (arith, enough _ _ _ c.loop-near.invariant.1.high)

pub loop-near-preserved : goal.loop-near-preserved
loop-near-preserved c =
    let f = c.loop-near.near in
    (omega arith, stepped _ _ f.label f.fit _ (omega arith) c.loop-near.invariant.1 (omega arith) c.lower.ensures)

-- and one below the label found
pub overflow_sub-near-in-loop-left : goal.overflow_sub-near-in-loop-left
overflow_sub-near-in-loop-left c = omega (arith, enough _ _ _ c.loop-near.invariant.1.high)

pub inner-requires : goal.inner-requires
inner-requires c =
    let C = c.loop-near.invariant.1 in
    let h = enough _ _ _ C.high in
    (omega arith, h, omega arith, omega arith, C.small, C.is)

pub loop-left-preserved : goal.loop-left-preserved
loop-left-preserved c =
    let k = c.args.k in
    let s = c.loop-left in
    let q = s.left - 1 in
    let f = c.loop-near.near in
    let C = c.loop-near.invariant.1 in
    let h : q ≤ suc f.label = enough _ _ _ C.high in
    let u : suc (f.label - 1) ≡ f.label = omega arith in
    let at : k - (q - 1) ≡ k - q + 1 = omega (arith, s.invariant.ranking.total) in
    let fits = c.if-near-r.true in
    let L = turn _ _ _ _ _ _ _ _ s.invariant.ranking (omega (arith, s.invariant.long)) f.label f.fit (omega arith) (omega arith) C.high C.is fits in
    let D = followed _ _ f.label f.fit _ (omega arith) (omega arith) C c.inner.ensures L.fits in
    record { long = simp length-set s.invariant.long; some = omega arith; within = omega arith; near = D; ranking = rw (at, u) L }

pub overflow_cast-labels-2 : goal.overflow_cast-labels-2
overflow_cast-labels-2 c =
    let s = c.loop-left in
    let z : s.left - 1 ≡ 1 = omega arith in
    omega (arith, choose_one (suc s.near.label), rw z at s.invariant.near.high)

pub returns : goal.returns
returns c =
    let s = c.loop-left in
    let one : s.left - 1 ≡ 1 = omega arith in
    let last = unrank-last _ _ _ _ _ _ _ _ s.invariant.ranking (omega (arith, s.invariant.long)) one in
    (rw one at last, simp length-set s.invariant.long)
