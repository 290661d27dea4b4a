-- `climbing::climb_on` meets its contract. Assumes nothing.
use Rattle.climbing.proofs.Pascal.{may-grow, short-turn, climb-end}
use Rattle.climbing.proofs.climb_on.Goals as goal

pub grow-s-requires : goal.grow-s-requires
grow-s-requires c = let C = c.loop-s.invariant.0 in record { b_nonzero = may-grow C c.requires.asked c.loop-s-test.true; climbed = C }

pub loop-s-preserved : goal.loop-s-preserved
loop-s-preserved c =
    let s = c.loop-s in
    let g = c.grow-s.ensures in
    (g.1, rw g.0 (short-turn s.invariant.0 c.requires.asked c.loop-s-test.true))

pub returns : goal.returns
returns c = let s = c.loop-s in climb-end s.invariant.0 c.requires.asked s.invariant.1 c.loop-s-test.false c.reached.ensures
