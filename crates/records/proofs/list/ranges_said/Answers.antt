use Rattle.records.proofs.Layouts.{said-one, said-low, said-high, said-listed}
use Rattle.records.proofs.list.ranges_said.Goals as goal
use Rattle.records.proofs.list.ranges_said.Goals.{then-t-lt2-via-then-t-lt2, then-t-lt2-via-else-t-lt2+then-t-gt16}

pub returns-then-numbers-ne2 : goal.returns-then-numbers-ne2
returns-then-numbers-ne2 c = said-one _ c.if-numbers-ne2.true

pub returns-then-t-lt2 : goal.returns-then-t-lt2
returns-then-t-lt2 c = elim c.then-t-lt2.branch [
  | then-t-lt2-via-then-t-lt2 w ↦ said-low _ c.if-numbers-ne2.false w.if-t-lt2.true
  | then-t-lt2-via-else-t-lt2+then-t-gt16 w ↦ said-high _ c.if-numbers-ne2.false w.if-t-gt16.true
]

pub returns : goal.returns
returns c = said-listed _ c.if-numbers-ne2.false c.if-t-lt2.false c.if-t-gt16.false
