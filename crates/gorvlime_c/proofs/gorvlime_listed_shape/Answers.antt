use Rattle.dump.proofs.Naming.{listed-bare}
use Rattle.gorvlime_c.proofs.gorvlime_listed_shape.Goals as goal

pub returns : goal.returns
returns c = c.flat.ensures _ (listed-bare c.args.bytes.now c.args.number) c.listed_shape.ensures
