-- The places from `at` to i are laid.
use Rattle.words.specs.Marks.{rest_of}
use Rattle.words.proofs.Patterns.{Scattering}
use Rattle.words.proofs.lay_some.Given as goal

abbrev pub invariant-loop-i : goal.invariant-loop-i
invariant-loop-i l =
    let p = l.p in
    Scattering l.m l.fn.w.word p.labels.now p.values.now p.k l.right (rest_of p.labels.now p.values.now p.k l.at l.next) l.word l.left l.from l.i
