use Rattle.writing.proofs.Laying.{digits-ask, digits-laid, patterns-ask, patterns-laid}
use Rattle.writing.proofs.lay_number.Goals as goal

pub lay_dealt-requires-clause-b_nonzero : goal.lay_dealt-requires-clause-b_nonzero
lay_dealt-requires-clause-b_nonzero c = let k = patterns-ask c.requires.2 c.in-Patterns.is in (k.0, k.1, k.2, k.3, k.4, k.5)

pub lay_plain-requires-clause-e_nonzero : goal.lay_plain-requires-clause-e_nonzero
lay_plain-requires-clause-e_nonzero c = let k = digits-ask c.requires.2 c.in-Digits.is in (k.1, k.2, k.3, k.4)

pub returns-in-Patterns : goal.returns-in-Patterns
returns-in-Patterns c = rw (patterns-laid c.requires.2 c.in-Patterns.is) at c.lay_dealt.ensures

pub returns-in-Digits : goal.returns-in-Digits
returns-in-Digits c = rw (digits-laid c.requires.2 c.in-Digits.is) at c.lay_plain.ensures
