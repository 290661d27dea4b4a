use Rattle.text.proofs.Laws.{exactly, within-then}
use Rattle.text.proofs.put_labelled.Goals as goal

pub returns : goal.returns
returns c = within-then (exactly c.put_bytes-behind.ensures) c.put_decimal.ensures
