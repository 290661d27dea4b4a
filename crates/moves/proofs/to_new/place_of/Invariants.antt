use Rattle.std.proofs.Common.{◌≡◌}
use Rattle.code.specs.NewDump.{place_of}
use Rattle.moves.specs.Kept.{kept_layouts, said_listed}
use Rattle.moves.proofs.to_new.place_of.Given as goal

abbrev pub invariant-loop-i : goal.invariant-loop-i
invariant-loop-i l = l.i ≡ place_of (kept_layouts l.i l.kept) (said_listed l.said)
