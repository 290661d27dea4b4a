use Rattle.reading.proofs.Laws.{dealt-last, dealt-before}
use Rattle.reading.proofs.telling.deal_by.Goals as goal

pub returns-then-next-eq0 : goal.returns-then-next-eq0
returns-then-next-eq0 c = dealt-last _ _ _ _ c.if-next-eq0.true

pub returns : goal.returns
returns c = dealt-before _ _ _ _ _ _ c.if-next-eq0.false c.first_or_later.ensures c.first_or_later-2.ensures
