-- `words::pick_word` meets its contract. Assumes nothing.
use mathlib.Core.Path.{ap, ◌∙◌}
use native.Mathlib.Omega.{arith}
use Rattle.words.specs.Marks.{group_in}
use Rattle.words.proofs.Filling.{filling-none, filling-room, filling-more, filling-all, marks-less}
use Rattle.words.proofs.Picked.{groups-picked}
use Rattle.words.proofs.pick_word.Goals as goal

pub loop-left-init : goal.loop-left-init
loop-left-init c = (c.requires.marks, filling-none _ _ _ _ _ _ (groups-picked _ _ _ _) c.requires.values_len.0 c.requires.values_len.1)

pub bounds-values-i : goal.bounds-values-i
bounds-values-i c =
    let g = c.args.groups in
    filling-room g.sized.0 g.sized.1 c.loop-left.invariant.0 (omega arith) c.loop-left.invariant.1

pub overflow_add-i : goal.overflow_add-i
overflow_add-i c =
    let g = c.args.groups in
    omega (arith, filling-room g.sized.0 g.sized.1 c.loop-left.invariant.0 (omega arith) c.loop-left.invariant.1)

pub loop-left-preserved : goal.loop-left-preserved
loop-left-preserved c =
    let l = c.loop-left in
    let g = c.args.groups in
    let x = c.at.ensures.0 ∙ ap (group_in _ _) c.top-p.ensures.0 in
    let F = filling-more g.sized.0 g.sized.1 l.invariant.0 (omega arith) l.invariant.1 _ x in
    rw c.strip-left.ensures.0 (marks-less g.sized.0 g.sized.1 l.invariant.0 (omega arith), F)

pub returns : goal.returns
returns c = filling-all (omega (arith, c.args.groups.sized.0)) (omega arith) c.loop-left.invariant.1
