use Rattle.std.proofs.Common.{◌-◌, ◌*◌, ◌≤◌, Some}
use Rattle.dump.specs.Answers.{dump_most}
use Rattle.listing.specs.Listing.{Standing}
use Rattle.fieldlist.proofs.Pieces.{Handing}
use Rattle.fieldlist.proofs.list_records.Given as goal

abbrev pub invariant-loop-count : goal.invariant-loop-count
invariant-loop-count l = Standing l.s × (l.count ≤ 4096 * l.s.next) × Handing l.kind l.dump l.count (Some l.s)

abbrev pub decreases-loop-count : goal.decreases-loop-count
decreases-loop-count l = dump_most - l.s.next
