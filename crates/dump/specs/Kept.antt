-- The layout that a walk keeps (no rule).
use Rattle.std.specs.Prelude.{◌≡◌}
use Rattle.shapes.specs.Outlines.{outlined}
use Rattle.code.specs.Dump.{Source}
use Rattle.layout.specs.Plan.{Planned}
use Rattle.records.specs.declared.Said.{Said}
use Rattle.records.specs.Head.{said_shape}
use Rattle.dump.specs.declared.kept.Kept.{Kept}

-- what no record says: a number that no list has
abbrev pub none_said : Said
none_said = record { layout = 0xFFFFFFFFFFFFFFFF; m = 0; t = 0; v = 0 }

-- it is the one that the last record said, and it is worked out
pub record Keeps (source : Source) (k : Kept) : Type 0 where
  pub planned : Planned k.plan k.v k.h
  pub same : outlined k.plan.outline k.v ≡ said_shape source k.said
