-- The groups whose marks are gone are added.
use Rattle.words.specs.Marks.{Marks, group_in}
use Rattle.words.specs.Words.{word_groups, groups_at}
use Rattle.words.proofs.Filling.{Filling}
use Rattle.words.proofs.pick_word.Given as goal

abbrev pub invariant-loop-left : goal.invariant-loop-left
invariant-loop-left l =
    let m = l.groups.m in
    let w = l.w in
    Marks m l.left × Filling (group_in m w.word) m l.initial.values (groups_at m (word_groups m) w.marks w.word) l.at l.left l.values l.i

abbrev pub decreases-loop-left : goal.decreases-loop-left
decreases-loop-left l = l.left
