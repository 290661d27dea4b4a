use Rattle.std.proofs.Common.{refl}
use Rattle.std.proofs.lemmas.Result.{err_from_is_err_and}
use Rattle.pairing.proofs.PairReads.{pair-18, pair-first, pair-second, first-laid, first_small}
use Rattle.pairing.proofs.read_pair.Goals as goal

pub returns-then-p : goal.returns-then-p
returns-then-p c = pair-18 c.args.p c.args.first.now c.args.second.now c.if-p.true

pub returns-in_err-read : goal.returns-in_err-read
returns-in_err-read c =
    let p = err_from_is_err_and c.from_residual.result c.from_residual.ensures.1 in
    let f = c.outline_with-outline.ensures.first refl in
    rw (p.1, p.2) (pair-first c.args.p c.args.first.now c.args.second.now c.if-p.false _ f _ c.in_err-read.ensures)

pub add_second-requires : goal.add_second-requires
add_second-requires c =
    let f = c.outline_with-outline.ensures.first refl in
    let small = first_small c.args.p c.args.first.now c.args.second.now c.if-p.false _ f c.in_ok-read.ensures in
    (first-laid c.args.p c.args.first.now c.args.second.now c.if-p.false _ f c.in_ok-read.ensures _ c.lay_into-laid.ensures, small.0, small.1, small.2)

pub returns : goal.returns
returns c =
    let f = c.outline_with-outline.ensures.first refl in
    pair-second c.args.p c.args.first.now c.args.second.now c.if-p.false _ f c.in_ok-read.ensures c.add_second.ensures
