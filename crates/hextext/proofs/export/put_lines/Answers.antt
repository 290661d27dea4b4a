use Rattle.std.proofs.Common.{◌≡◌, ◌*◌, ◌+◌, ◌∙◌, drop}
use native.Mathlib.Omega.{arith}
use lib.ListN.{length-take, length-drop}
use Rattle.hextext.proofs.Outward.{lining-begin, lining-next, lining-room, lining-end, line-is}
use Rattle.hextext.proofs.export.put_lines.Goals as goal

pub loop-n-init : goal.loop-n-init
loop-n-init c =
    let e = c.into_iter-n-iterator.ensures.into_iter_gives in
    let k = c.enumerate-n-items.ensures in
    rw (e, k.source, k.count) (c.chunks.ensures.size, c.chunks.ensures.rest, lining-begin _ _)

pub put_line-at-requires : goal.put_line-at-requires
put_line-at-requires c =
    let v = c.loop-n.invariant in
    let s = c.in-Some.ensures.steps in
    let h = line-is _ _ v.1 s.0.1.0 (rw v.0 at s.0.1.1) s.0.1.2 in
    let few = length-take 16 (drop (16 * c.loop-n.n-iterator.count) c.args.bytes.now) in
    let room = lining-room v.2 h.2 in
    let n = s.1 in
    let same = v.2.storing.same in
    rw h.0 (omega arith, omega arith, omega arith)

pub loop-n-preserved : goal.loop-n-preserved
loop-n-preserved c =
    let v = c.loop-n.invariant in
    let s = c.in-Some.ensures.steps in
    let e : 16 * (c.loop-n.n-iterator.count + 1) ≡ 16 * c.loop-n.n-iterator.count + 16 = omega arith in
    let h = line-is _ _ v.1 s.0.1.0 (rw v.0 at s.0.1.1) s.0.1.2 in
    rw (s.2, e) (s.0.0 ∙ v.0, h.1, lining-next v.2 _ _ h.2 (rw (h.0, s.1) at c.put_line-at.ensures))

pub returns : goal.returns
returns c =
    let h = c.in-None.ensures.steps.0.1.0 in
    let v = c.loop-n.invariant in
    lining-end v.2 (omega (arith, length-drop (16 * c.loop-n.n-iterator.count) c.args.bytes.now, rw v.1 at h))
