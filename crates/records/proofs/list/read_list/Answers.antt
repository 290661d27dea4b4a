use Rattle.std.proofs.Common.{◌∙◌, arith}
use Rattle.records.proofs.Listing.{count_cut, count-over, count-within}
use Rattle.records.proofs.list.read_list.Goals as goal

pub returns-in_err-end : goal.returns-in_err-end
returns-in_err-end c =
    rw c.from_residual.ensures
    record { reads = count_cut _ _ c.read_numbers.ensures c.in_err-end.was; few = tt; long = c.requires.1 }

pub returns-then-count : goal.returns-then-count
returns-then-count c =
    record { reads = count-over _ _ c.read_numbers.ensures c.in_ok-end.was (omega arith); few = tt; long = c.requires.1 }

pub returns : goal.returns
returns c =
    let r = c.read_places.ensures in
    record { reads = r.reads ∙ count-within _ _ c.read_numbers.ensures c.in_ok-end.was (omega arith); few = r.few; long = r.long }
