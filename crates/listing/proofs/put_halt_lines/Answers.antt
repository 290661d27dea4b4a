use Rattle.std.proofs.Common.{arith}
use Rattle.text.proofs.Laws.{wider}
use Rattle.listing.proofs.put_halt_lines.Goals as goal

pub returns-in-Oversize : goal.returns-in-Oversize
returns-in-Oversize c = rw c.in-Oversize.is (wider (omega arith) (c.put_oversize_line.ensures c.args.count))
