use Rattle.std.proofs.Common.{append_assoc}
use Rattle.code.specs.Lists.{ascii}
use Rattle.code.specs.Listing.{spelled, stop_lines}
use Rattle.text.proofs.Laws.{exactly, within-then}
use Rattle.text.proofs.put_stop_lines.Goals as goal

pub returns : goal.returns
unfolding ascii spelled stop_lines
returns c =
    simp append_assoc at (within-then (within-then c.put_labelled-first.ensures (exactly c.put_byte-second.ensures)) c.put_last_line.ensures)
