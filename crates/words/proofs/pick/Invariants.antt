-- The marked groups of the words before this one are picked.
use lib.ListN.{length}
use Rattle.words.specs.Words.{front_at}
use Rattle.words.proofs.Filling.{Going}
use Rattle.words.proofs.Front.{back_at}
use Rattle.words.proofs.pick.Given as goal

abbrev pub invariant-loop-w : goal.invariant-loop-w
invariant-loop-w l = Going (front_at l.m l.n l.marks l.words) (back_at l.m l.n (length l.yielded) l.marks l.words) l.values l.k
