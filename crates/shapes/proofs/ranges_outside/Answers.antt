-- `shapes::ranges_outside` meets its contract. Assumes nothing.
use Rattle.shapes.proofs.Ranges.{count-within, ranges-tested}
use Rattle.shapes.proofs.ranges_outside.Goals as goal

pub later_ranges-requires : goal.later_ranges-requires
later_ranges-requires c = count-within _ c.requires

pub returns : goal.returns
returns c = ranges-tested _ c.requires _ _ _ _ c.is_range.ensures c.later_ranges.ensures
