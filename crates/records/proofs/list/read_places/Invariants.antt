use Rattle.std.proofs.Common.{◌≡◌, length}
use Rattle.records.proofs.Listing.{Listing}
use Rattle.records.proofs.list.read_places.Given as goal

abbrev pub invariant-loop-i : goal.invariant-loop-i
invariant-loop-i l = Listing l.count l.dump l.at l.places l.start l.i × (length l.v ≡ 16)
