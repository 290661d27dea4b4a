use Rattle.std.proofs.Common.{arith}
use Rattle.reading.proofs.Looking.{pattern-told, gathered-few}
use Rattle.reading.proofs.telling.tell_pattern.Goals as goal

pub number-requires-clause-k_le_pattern_most : goal.number-requires-clause-k_le_pattern_most
number-requires-clause-k_le_pattern_most c =
    let g = c.gather-k.ensures in
    let p = c.requires in
    (omega (arith, p.2, g.chosen.count), gathered-few g p.1, omega (arith, p.1, p.0.most), p.3, p.4, p.5)

pub returns : goal.returns
returns c = pattern-told _ _ _ _ _ _ _ _ c.gather-k.ensures c.requires.1 c.number.ensures
