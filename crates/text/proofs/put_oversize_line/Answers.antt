use Rattle.code.specs.Lists.{ascii}
use Rattle.code.specs.Listing.{spelled, stop_lines}
use Rattle.text.proofs.Laws.{exactly}
use Rattle.text.proofs.put_oversize_line.Goals as goal

pub returns : goal.returns
unfolding ascii spelled stop_lines
returns c count = exactly c.put_bytes.ensures
