use Rattle.std.proofs.Common.{rules, arith}
use Rattle.storing.proofs.Put.{part-put}
use Rattle.walking.proofs.put_numbers.Goals as goal

pub returns : goal.returns
returns c = part-put c.args.rows.now c.args.place (search rules) (omega arith) (omega arith) (omega arith)
