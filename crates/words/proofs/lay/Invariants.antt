-- The places of the first i words are laid.
use lib.ListN.{take}
use Rattle.code.proofs.Chosen.{scattered}
use Rattle.words.proofs.Patterns.{Spread}
use Rattle.words.proofs.lay.Given as goal

abbrev pub invariant-loop-i : goal.invariant-loop-i
invariant-loop-i l = Spread l.m l.n (scattered l.s (take l.k l.labels) (take l.k l.values)) l.fn.words l.labels l.values l.k l.words l.next l.at l.i
