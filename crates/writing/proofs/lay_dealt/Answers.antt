use Rattle.std.proofs.Common.{◌-◌, ◌^◌}
use Rattle.code.specs.Deal.{deal}
use Rattle.code.proofs.Groups.{upto-grows}
use Rattle.words.proofs.Joined.{pattern-back}
use Rattle.writing.proofs.Laying.{dealt-is}
use Rattle.writing.proofs.lay_dealt.Goals as goal

pub lay-requires-clause-chosen : goal.lay-requires-clause-chosen
lay-requires-clause-chosen c =
    let a = c.args in
    let r = c.deal-k in
    let i = dealt-is a.b a.fewest a.places a.x c.requires.b_nonzero.0 c.requires.b_nonzero.5 in
    rw (pattern-back (deal a.b a.fewest a.places a.x) r.new.labels r.new.values r.result a.places r.ensures.chosen i.0) r.ensures.chosen

pub lay-requires-clause-upto : goal.lay-requires-clause-upto
lay-requires-clause-upto c =
    let a = c.args in
    let r = c.deal-k in
    let p = c.requires.b_nonzero in
    let xs = deal a.b a.fewest a.places a.x in
    let i = dealt-is a.b a.fewest a.places a.x p.0 p.5 in
    rw (pattern-back xs r.new.labels r.new.values r.result a.places r.ensures.chosen i.0) (upto-grows a.b (2 ^ a.m - 1) p.2 xs i.1)

pub returns : goal.returns
returns c =
    let a = c.args in
    let r = c.deal-k in
    let i = dealt-is a.b a.fewest a.places a.x c.requires.b_nonzero.0 c.requires.b_nonzero.5 in
    rw (pattern-back (deal a.b a.fewest a.places a.x) r.new.labels r.new.values r.result a.places r.ensures.chosen i.0) at c.lay.ensures
