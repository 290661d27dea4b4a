-- The labels and the values less 1 at the marks that are gone are added.
use Rattle.words.specs.Marks.{Leftover, picked, label_in, less_in, written_marks}
use Rattle.words.specs.Words.{word_groups}
use Rattle.words.proofs.Filling.{Filling}
use Rattle.words.proofs.gather_word.Given as goal

abbrev pub invariant-loop-left : goal.invariant-loop-left
invariant-loop-left l =
    let m = l.groups.m in
    let w = l.w in
    let written = written_marks m w.marks w.word in
    Leftover m w.word w.marks l.right l.left
    × Filling (label_in l.right w.marks) m l.initial.labels (picked (label_in l.right w.marks) m (word_groups m) written) l.at l.left l.labels l.i
    × Filling (less_in m w.word) m l.initial.values (picked (less_in m w.word) m (word_groups m) written) l.at l.left l.values l.i

abbrev pub decreases-loop-left : goal.decreases-loop-left
decreases-loop-left l = l.left
