-- The label and its binomial, which is not below that of the label looked for.
use Prim.Native.Nat.{◌≤◌}
use Rattle.dealing.specs.Pick.{Candidate}
use Rattle.dealing.proofs.leap.Given as goal

abbrev pub invariant-loop-near : goal.invariant-loop-near
invariant-loop-near l = (l.near.label ≤ l.fn.from.label) × Candidate l.left l.r l.near.label l.near.fit

abbrev pub decreases-loop-near : goal.decreases-loop-near
decreases-loop-near l = l.near.label
