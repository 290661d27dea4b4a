-- `climbing::grow` meets its contract. Assumes nothing.
use mathlib.Core.Path.{refl}
use native.Mathlib.Omega.{arith}
use Rattle.climbing.proofs.Pascal.{all_room, scale-room, more_room, climb-turn}
use Rattle.climbing.proofs.grow.Goals as goal

pub overflow_add-all-2 : goal.overflow_add-all-2
overflow_add-all-2 c = omega (arith, all_room c.requires.climbed (omega arith) (omega arith))

pub overflow_mul-more : goal.overflow_mul-more
overflow_mul-more c = omega (arith, more_room c.requires.climbed (omega arith) (omega arith) (omega arith))

pub overflow_add-scale : goal.overflow_add-scale
overflow_add-scale c = omega (arith, scale-room c.requires.climbed (omega arith) (omega arith))

pub returns : goal.returns
returns c = (refl, climb-turn c.requires.climbed (omega arith) (omega arith) (omega arith))
