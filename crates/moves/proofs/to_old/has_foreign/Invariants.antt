use Rattle.std.proofs.Common.{◌≡◌, drop}
use Rattle.code.specs.NewDump.{foreign}
use Rattle.records.specs.Source.{layouts_at}
use Rattle.moves.proofs.to_old.has_foreign.Given as goal

abbrev pub invariant-loop-place : goal.invariant-loop-place
invariant-loop-place l = foreign (layouts_at l.dump l.places) ≡ foreign (layouts_at l.dump (drop l.place-index l.places))
