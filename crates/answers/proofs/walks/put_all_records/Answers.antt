use Rattle.std.proofs.Common.{◌≡◌, arith, rules, Ok, false}
use Rattle.walking.proofs.Rows.{row-some}
use Rattle.walking.proofs.Runs.{walked-onward}
use Rattle.answers.proofs.walks.put_all_records.Goals as goal

pub loop-text-smaller : goal.loop-text-smaller
loop-text-smaller c =
    let w = c.walk_on-w in
    let wide = (row-some c.args.dump.kind).1 in
    let v = c.loop-text.invariant in
    let on : w.result.ended ≡ Ok false = cc in
    omega (arith, walked-onward _ _ _ _ w.result w.ensures (omega arith) (omega arith) on)

pub loop-text-preserved : goal.loop-text-preserved
loop-text-preserved c =
    let w = c.walk_on-w in
    let wide = (row-some c.args.dump.kind).1 in
    let v = c.loop-text.invariant in
    let on : w.result.ended ≡ Ok false = cc in
    (search rules, (walked-onward _ _ _ _ w.result w.ensures (omega arith) (omega arith) on).1)
