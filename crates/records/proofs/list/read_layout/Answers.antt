use Rattle.std.proofs.Common.{arith}
use Rattle.records.proofs.Layouts.{there-cut, there-uncounted, ranges-cut, there-whole}
use Rattle.records.proofs.list.read_layout.Goals as goal

pub returns-in_err-behind : goal.returns-in_err-behind
returns-in_err-behind c = rw c.from_residual.ensures (there-cut _ _ _ _ c.requires c.read_numbers.ensures c.in_err-behind.was)

pub returns-in_err-count : goal.returns-in_err-count
returns-in_err-count c =
    rw c.from_residual-in_err-count.ensures
    (there-uncounted _ _ _ _ c.requires c.read_numbers.ensures c.in_ok-behind.was c.in_err-count.ensures)

pub returns-in_err-end : goal.returns-in_err-end
returns-in_err-end c =
    let n = c.read_numbers in
    rw c.from_residual-in_err-end.ensures
    (ranges-cut _ _ _ _ c.requires n.ensures c.in_ok-behind.was _ c.in_ok-count.ensures _ c.read_ranges.ensures c.in_err-end.was)

pub returns : goal.returns
returns c =
    let n = c.read_numbers in
    there-whole _ _ _ _ c.requires n.ensures c.in_ok-behind.was _ c.in_ok-count.ensures _ c.read_ranges.ensures c.in_ok-end.was (omega arith)
