-- `words::gather` meets its contract. Assumes nothing.
use Prim.Native.Nat.{◌<◌}
use mathlib.Core.Path.{refl, ◌∙◌}
use native.Mathlib.Omega.{arith}
use Rattle.words.proofs.Gathering.{gathering-none, gathering-all, gathering-right, gathering-last, gathering-left, gathering-few, gathering-more}
use Rattle.words.proofs.gather.Goals as goal

pub loop-i-init : goal.loop-i-init
loop-i-init c =
    let pre = c.requires in
    gathering-none pre.pickable.0 _ _ _ pre.pickable.1 pre.labels_len.0 pre.labels_len.1

pub places_behind-right-requires : goal.places_behind-right-requires
places_behind-right-requires c =
    let p = c.requires.pickable.0 in
    let h : c.loop-i.i < c.args.n = omega arith in
    (omega arith, p.few, (gathering-right p h c.loop-i.invariant).0, gathering-last p h c.loop-i.invariant)

pub gather_word-k-requires : goal.gather_word-k-requires
gather_word-k-requires c =
    let p = c.requires.pickable.0 in
    let l = c.loop-i in
    let h : l.i < c.args.n = omega arith in
    let e = c.places_behind-right.ensures ∙ (gathering-right p h l.invariant).1 in
    record {
      leftover = rw c.of-groups.ensures (gathering-left p h l.invariant _ _ _ refl refl e);
      w_bound = (
        rw c.of-groups.ensures (gathering-few p h l.invariant _ _ _ refl refl e c.requires.words_bound),
        l.invariant.places.long,
        l.invariant.marks.long,
      );
    }

pub loop-i-preserved : goal.loop-i-preserved
loop-i-preserved c =
    let p = c.requires.pickable.0 in
    let l = c.loop-i in
    let h : l.i < c.args.n = omega arith in
    let e = c.places_behind-right.ensures ∙ (gathering-right p h l.invariant).1 in
    let g = c.of-groups.ensures in
    gathering-more p h l.invariant _ _ _ refl refl e _ _ _ (rw g at c.gather_word-k.ensures.added) (rw g at c.gather_word-k.ensures.added_2)

pub returns : goal.returns
returns c = gathering-all c.requires.pickable.0 (omega arith) c.loop-i.invariant
