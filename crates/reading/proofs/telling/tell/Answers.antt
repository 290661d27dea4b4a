use Rattle.std.proofs.Common.{refl}
use Rattle.reading.proofs.Looking.{last-told, pattern-few, before-told}
use Rattle.reading.proofs.telling.tell.Goals as goal

pub tell_pattern-requires : goal.tell_pattern-requires
tell_pattern-requires c =
    let p = c.requires in
    let k = pattern-few c.in-Patterns.is p.1 refl in
    (p.0, p.1.many, k.0, k.1, k.2, k.3)

pub returns-in-Patterns : goal.returns-in-Patterns
returns-in-Patterns c = before-told c.in-Patterns.is _ _ c.tell_pattern.ensures

pub returns-in-Digits : goal.returns-in-Digits
returns-in-Digits c = last-told c.in-Digits.is _ _ _ c.tell_digits.ensures c.saturating_sub.ensures
