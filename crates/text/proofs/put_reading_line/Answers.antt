use Rattle.std.proofs.Common.{append_assoc}
use Rattle.code.specs.Lists.{ascii}
use Rattle.code.specs.Listing.{record_line}
use Rattle.text.proofs.Laws.{exactly, within-then, within_same}
use Rattle.text.proofs.put_reading_line.Goals as goal

pub returns : goal.returns
unfolding ascii record_line
returns c =
    let two = within-then c.put_decimal-first.ensures c.put_labelled-second.ensures in
    let four = within-then (within-then two c.put_labelled-third.ensures) c.put_labelled-fourth.ensures in
    within_same (within-then four (exactly c.put_byte.ensures)) (simp append_assoc)
