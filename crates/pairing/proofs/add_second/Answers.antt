use Rattle.std.proofs.Common.{refl}
use Rattle.std.proofs.lemmas.Result.{err_from_is_err_and}
use Rattle.pairing.proofs.Sights.{second-granted, second-seen, second-unseen, second-small, second-no-layout, second-refused, second-read}
use Rattle.pairing.proofs.add_second.Goals as goal

pub returns-in_err-lay_second : goal.returns-in_err-lay_second
returns-in_err-lay_second c =
    let p = err_from_is_err_and c.from_residual.result c.from_residual.ensures.1 in
    rw (p.1, p.2) (second-no-layout c.args.p c.args.first.number c.args.first.left c.args.second.now _ c.in_err-lay_second.ensures)

pub see_field-requires : goal.see_field-requires
see_field-requires c = second-granted c.requires.0 _ (c.outline_with.ensures.second refl) c.in_ok-lay_second.ensures

pub returns-in_err-seen : goal.returns-in_err-seen
returns-in_err-seen c =
    let p = err_from_is_err_and c.from_residual-in_err-seen.result c.from_residual-in_err-seen.ensures.1 in
    let q = second-unseen c.requires.0 _ (c.outline_with.ensures.second refl) c.in_ok-lay_second.ensures _ _ _ c.see_field.ensures c.in_err-seen.was in
    rw (p.1, p.2) (second-refused c.args.p c.args.first.number c.args.first.left c.args.second.now _ q)

pub add_up-requires : goal.add_up-requires
add_up-requires c =
    let S = second-seen c.requires.0 _ (c.outline_with.ensures.second refl) c.in_ok-lay_second.ensures _ _ _ c.see_field.ensures c.in_ok-seen.was in
    let small = second-small c.requires.0 S.0 S.1 S.2 in
    (c.requires.1, small.0, c.requires.2, c.requires.3, small.1, small.2)

pub returns : goal.returns
returns c =
    let S = second-seen c.requires.0 _ (c.outline_with.ensures.second refl) c.in_ok-lay_second.ensures _ _ _ c.see_field.ensures c.in_ok-seen.was in
    second-read c.args.p c.args.first.number c.args.first.left c.args.second.now S.0 _ _ S.1 S.2 (rw c.add_up.ensures)
