use Rattle.std.proofs.Common.{◌∙◌, sym, ap}
use Rattle.records.specs.Head.{said_shape}
use Rattle.dump.proofs.Keeping.{zeros-refused, none_said_lem}
use Rattle.dump.proofs.kept.Kept.none.Goals as goal

pub returns : goal.returns
returns c source few = record {
  planned = record { right = zeros-refused };
  same = none_said_lem source few ∙ ap (said_shape source) (sym c.say_none.ensures);
}
