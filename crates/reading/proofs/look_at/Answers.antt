use Rattle.reading.proofs.Looking.{loadable, loaded-holds, looked}
use Rattle.reading.proofs.look_at.Goals as goal

pub load-n-requires : goal.load-n-requires
load-n-requires c =
    let p = c.requires in
    (loadable p.granted.0 _ p.granted.1 _ (c.order.ensures c.args.v.now), p.words_len.0)

pub read_groups-found-requires : goal.read_groups-found-requires
read_groups-found-requires c =
    let p = c.requires in
    (p.granted.0, loaded-holds p.granted.0 _ p.granted.1 (c.order.ensures c.args.v.now) c.load-n.ensures, c.see-seen.ensures)

pub returns-clause-looked : goal.returns-clause-looked
returns-clause-looked c =
    let p = c.requires in
    looked p.granted.0 _ p.granted.1 (c.order.ensures c.args.v.now) c.load-n.ensures _ _ _ c.see-seen.ensures c.read_groups-found.ensures.result_value
