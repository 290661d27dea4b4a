use Rattle.std.proofs.Common.{arith, ◌-◌, lt_trans}
use Rattle.shapes.specs.Outlines.{outlined}
use Rattle.code.proofs.LayoutCall.{ranges-length, range-within}
use Rattle.layout.proofs.Tail.{last_stored, last-crowded, next-stored, next-crowded, asked-later}
use Rattle.layout.proofs.later_counts.Goals as goal

pub returns-then-g-low : goal.returns-then-g-low
returns-then-g-low c =
    let p = c.requires in
    last-crowded p.2 (ranges-length (outlined c.args.f c.args.v.now) p.0) p.0.t-low p.0.t-high p.4 c.range_at.ensures.0 c.last_count-low.ensures c.if-g-low.true

pub loop-i-init : goal.loop-i-init
loop-i-init c =
    let p = c.requires in
    let L = c.last_count-low.ensures in
    let T = last_stored p.2 (ranges-length (outlined c.args.f c.args.v.now) p.0) p.0.t-low p.0.t-high p.4 c.range_at.ensures.0 L c.if-g-low.false in
    (T, omega arith, L.above, c.if-g-low.false, c.first_goal-goal.ensures)

pub climb-low-requires : goal.climb-low-requires
climb-low-requires c =
    let l = c.loop-i in
    let p = c.requires in
    let w = range-within (outlined c.args.f c.args.v.now) p.0 (l.i - 1) (omega (arith, l.invariant.0.within)) in
    asked-later p.2 p.3 l.invariant.3 p.1 w c.goal_at-goal.ensures.need_value c.goal_at-goal.ensures.aimed_2.cuts

pub returns-then-g-low-2 : goal.returns-then-g-low-2
returns-then-g-low-2 c =
    let l = c.loop-i in
    next-crowded l.invariant.0 c.loop-i-test.true l.invariant.2 c.goal_at-goal.ensures.need_value c.climb-low.ensures c.if-g-low-2.true

pub loop-i-preserved : goal.loop-i-preserved
loop-i-preserved c =
    let l = c.loop-i in
    let L = c.climb-low.ensures in
    let T = next-stored l.invariant.0 c.loop-i-test.true l.invariant.2 c.goal_at-goal.ensures.need_value L c.if-g-low-2.false in
    (T, omega arith, lt_trans l.invariant.2 L.above, c.if-g-low-2.false, c.goal_at-goal.ensures.aimed_2)
