use Rattle.std.proofs.Common.{arith}
use Rattle.dump.proofs.Walking.{long-barred, old-opens}
use Rattle.dump.proofs.«open».Goals as goal

pub returns-then-dump-gt-DUMP_MOST : goal.returns-then-dump-gt-DUMP_MOST
returns-then-dump-gt-DUMP_MOST c = long-barred _ _ _ (omega arith) c.requires

pub returns-in-Old : goal.returns-in-Old
returns-in-Old c = rw c.in-Old.is (old-opens _ _ (omega arith) c.requires)
