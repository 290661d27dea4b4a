-- `words::bits::Groups::at` meets its contract. Assumes nothing.
use Rattle.words.proofs.Highest.{group-is}
use Rattle.words.proofs.bits.Groups.at.Goals as goal

pub returns : goal.returns
returns c = let g = c.args.self in group-is _ _ _ g.sized.1 g.filled
