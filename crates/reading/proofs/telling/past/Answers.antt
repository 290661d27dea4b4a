use Rattle.std.proofs.Common.{refl, ◌≤◌, ◌<◌, arith, rules, tests}
use Rattle.std.proofs.lemmas.Iterator.{IsFirst-from_position, YieldsList-from_slice, index_from_first}
use Rattle.reading.proofs.Laws.{above, above-hit, above-miss, past-found}
use Rattle.reading.proofs.telling.past.Goals as goal

pub returns : goal.returns
returns c =
    let z = c.args.z in
    let first = IsFirst-from_position _ _ _ (λ x. x ≤ z) (λ x. z < x) c.position.ensures.ran (YieldsList-from_slice _ c.iter.ensures.rest)
    (λ x q k. search (rules, tests)) (λ x q k. search (rules, tests)) in
    let passed = index_from_first (above z) (λ x. x ≤ z) (λ x. z < x) refl (above-hit z) (above-miss z) _ c.position.result first in
    rw c.unwrap_or.ensures (past-found c.args.t c.args.h.now z c.position.result c.requires.0 (omega arith) passed)
