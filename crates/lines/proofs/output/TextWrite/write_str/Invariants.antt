use Rattle.std.proofs.Common.{◌+◌, length}
use Rattle.lines.proofs.output.TextWrite.write_str.Given as goal

abbrev pub decreases-loop-self : goal.decreases-loop-self
decreases-loop-self l = length l.rest + l.self.count
