use Rattle.reading.proofs.Looking.{width, reads-blank, reads_at, reads-miscounted, placed, tellable, read-at-is}
use Rattle.reading.proofs.read_groups.Goals as goal

pub returns-then-seen-h-clause-result_value : goal.returns-then-seen-h-clause-result_value
returns-then-seen-h-clause-result_value c = reads-blank c.requires.0 c.requires.1 c.requires.2 c.if-seen-h.true

pub returns-then-is_miscounted-clause-result_value : goal.returns-then-is_miscounted-clause-result_value
returns-then-is_miscounted-clause-result_value c =
    let p = c.requires in
    let M = c.is_miscounted.ensures.0 c.if-is_miscounted.true in
    reads-miscounted p.0 p.1 p.2 c.if-seen-h.false _ c.past-i.ensures.0 M.0 M.1

pub mark_places-requires : goal.mark_places-requires
mark_places-requires c = let p = c.requires in (rw (width p.0 p.1) p.1.ends, p.2.long)

pub tell-x-requires : goal.tell-x-requires
tell-x-requires c =
    let p = c.requires in
    let M = c.mark_places.ensures.fronted in
    let right = c.is_miscounted.ensures.1 c.if-is_miscounted.false in
    let P = placed p.0 p.1 p.2 c.if-seen-h.false _ c.past-i.ensures.0 right M.0 M.1 in
    (P.pick, tellable p.0 P _ c.generation_at-g.ensures)

pub returns-clause-result_value : goal.returns-clause-result_value
returns-clause-result_value c =
    let p = c.requires in
    let M = c.mark_places.ensures.fronted in
    let right = c.is_miscounted.ensures.1 c.if-is_miscounted.false in
    let P = placed p.0 p.1 p.2 c.if-seen-h.false _ c.past-i.ensures.0 right M.0 M.1 in
    let J = read-at-is p.0 _ c.past-i.ensures.1 _ P.many _ _ _ c.generation_at-g.ensures c.tell-x.ensures c.ranged.ensures _ P.held in
    reads_at p.0 p.1 p.2 c.if-seen-h.false _ c.past-i.ensures.0 _ J
