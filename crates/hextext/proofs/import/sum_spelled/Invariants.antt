use Rattle.std.proofs.Common.{◌≡◌, ◌*◌, ◌≤◌, true, take, drop}
use Rattle.code.specs.Hex.{spelled_bytes, all_spelled}
use Rattle.code.specs.Lists.{list_sum}
use Rattle.hextext.proofs.import.sum_spelled.Given as goal

abbrev pub invariant-loop-i : goal.invariant-loop-i
invariant-loop-i l =
    let front = take l.i (spelled_bytes l.n (drop 1 l.line)) in
    (l.sum ≤ 255 * l.i) × (all_spelled front ≡ true) × (list_sum front ≡ l.sum)
