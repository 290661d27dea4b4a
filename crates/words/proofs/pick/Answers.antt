-- `words::pick` meets its contract. Assumes nothing.
use Prim.Native.Nat.{◌≤◌, ◌<◌}
use mathlib.Core.Path.{◌∙◌}
use lib.ListN.{length, take, length-take}
use native.Mathlib.Omega.{arith}
use Rattle.std.proofs.lemmas.List.{get_or-take, length_push}
use Rattle.std.proofs.lemmas.Slice.Zip.{zip_turn, zip_end}
use Rattle.words.proofs.Filling.{going-none, going_more, going-all, pick_more, pick-room, pick-none}
use Rattle.words.proofs.pick.Goals as goal

pub loop-w-init : goal.loop-w-init
loop-w-init c = going-none _ _ c.requires.values_len

pub pick_word-k-requires : goal.pick_word-k-requires
pick_word-k-requires c =
    let n = c.args.n in
    let ws = c.args.words.now in
    let os = c.args.marks.now in
    let p = c.requires.pickable.0 in
    let i = length c.loop-w.yielded in
    let t = zip_turn (take n ws) (take n os) c.loop-w.yielded _ _ c.next.new.self _ (cc) (cc) c.loop-w.yielded_by _ c.in-Some.is c.next.ensures.steps in
    let h : i < n = omega (arith, t.0, length-take n ws) in
    let w = t.2 0 ∙ get_or-take n ws i 0 h in
    let o = t.3 0 ∙ get_or-take n os i 0 h in
    record {
      marks = rw (c.of-groups.ensures, o) (p.marks i h);
      values_len = (c.loop-w.invariant.long, rw (c.of-groups.ensures, w, o) (pick-room p i c.requires.pickable.1 h c.loop-w.invariant));
    }

pub loop-w-preserved : goal.loop-w-preserved
loop-w-preserved c =
    let n = c.args.n in
    let ws = c.args.words.now in
    let os = c.args.marks.now in
    let i = length c.loop-w.yielded in
    let t = zip_turn (take n ws) (take n os) c.loop-w.yielded _ _ c.next.new.self _ (cc) (cc) c.loop-w.yielded_by _ c.in-Some.is c.next.ensures.steps in
    let h : i < n = omega (arith, t.0, length-take n ws) in
    let w = t.2 0 ∙ get_or-take n ws i 0 h in
    let o = t.3 0 ∙ get_or-take n os i 0 h in
    rw (length_push c.loop-w.yielded (c.in-Some.w, c.in-Some.o))
    (going_more _ _ _ _ c.loop-w.invariant (rw (w, o) (pick_more c.requires.pickable.0 _ h)) (rw c.of-groups.ensures at c.pick_word-k.ensures))

pub returns : goal.returns
returns c =
    let n = c.args.n in
    let ws = c.args.words.now in
    let os = c.args.marks.now in
    let p = c.requires.pickable.0 in
    let t = zip_end (take n ws) (take n os) c.loop-w.yielded _ _ c.next.new.self _ (cc) (cc) c.loop-w.yielded_by c.in-None.is c.next.ensures.steps in
    let h : n ≤ length c.loop-w.yielded = omega (arith, t, length-take n ws, length-take n os, p.few, p.long, p.room) in
    going-all (pick-none p _ h) c.loop-w.invariant
