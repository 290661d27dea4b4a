-- The labels of those left to be found, of which the next has this rank and this candidate.
use Prim.Native.Nat.{suc, ◌-◌, ◌≤◌}
use mathlib.Core.Path.{◌≡◌}
use lib.ListN.{length}
use Rattle.code.proofs.Chosen.{pattern_most}
use Rattle.dealing.specs.Pick.{Candidate}
use Rattle.dealing.proofs.Drawing.{Unranking}
use Rattle.dealing.proofs.unrank.Given as goal

abbrev pub invariant-loop-left : goal.invariant-loop-left
invariant-loop-left l = record {
  long : length l.labels ≡ pattern_most;
  some : 2 ≤ l.left;
  within : l.near.label ≤ 255;
  near : Candidate (l.left - 1) l.r l.near.label l.near.fit;
  ranking : Unranking l.s l.k l.r-2 l.labels (l.k - (l.left - 1)) (suc l.near.label) (l.left - 1) l.r;
}

-- the labels that were passed by do not fit
abbrev pub invariant-loop-near : goal.invariant-loop-near
invariant-loop-near l = (l.near.label ≤ l.initial.near.label) × Candidate l.left l.r l.near.label l.near.fit

abbrev pub decreases-loop-near : goal.decreases-loop-near
decreases-loop-near l = l.near.label
