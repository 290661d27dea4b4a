-- `words::bits::Groups::erased` meets its contract. Assumes nothing.
use Rattle.words.proofs.Masks.{erased-marks}
use Rattle.words.proofs.bits.Groups.erased.Goals as goal

pub returns : goal.returns
returns c = let g = c.args.self in rw g.marked (erased-marks _ _ _ g.sized.0 g.sized.1)
