-- `words::bits::Groups::nonzero` meets its contract. Assumes nothing.
use Rattle.words.proofs.Masks.{nonzero-marks}
use Rattle.words.proofs.bits.Groups.nonzero.Goals as goal

pub returns : goal.returns
returns c = let g = c.args.self in rw g.marked (nonzero-marks _ _ _ g.sized.0 g.sized.1)
