use Rattle.std.proofs.Common.{append_assoc}
use Rattle.code.specs.Lists.{ascii}
use Rattle.code.specs.Listing.{last_line}
use Rattle.text.proofs.Laws.{exactly, within-then}
use Rattle.text.proofs.put_last_line.Goals as goal

pub returns : goal.returns
unfolding ascii last_line
returns c = simp append_assoc at (within-then c.put_labelled-first.ensures (exactly c.put_byte.ensures))
