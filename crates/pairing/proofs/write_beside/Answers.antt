use Rattle.std.proofs.Common.{refl, sym, ◌∙◌}
use Rattle.std.proofs.lemmas.Result.{err_from_is_err_and}
use Rattle.code.specs.Pair.{completing, first_due, second_due}
use Rattle.pairing.proofs.Sights.{first-shaped, second-shaped, second-granted, second-seen, second-unseen}
use Rattle.pairing.proofs.PairWrites.{first-seen, first-granted, second-no-layout, second-refused, writes-5, first-due, second-due}
use Rattle.pairing.proofs.PairWrites.{writes-first-is, writes-first-not, writes-second-is, writes-second-not}
use Rattle.pairing.proofs.write_beside.Goals as goal

pub returns-in_err-lay_second : goal.returns-in_err-lay_second
returns-in_err-lay_second c =
    let p = err_from_is_err_and c.from_residual.result c.from_residual.ensures.1 in
    let F = first-seen c.requires.0 _ c.requires.1 in
    rw (p.1, p.2) (second-no-layout c.args.p c.args.due.number c.args.first.now c.args.second.now c.requires.0.same F.0 _ c.in_err-lay_second.ensures)

pub see_field-requires : goal.see_field-requires
see_field-requires c = second-granted c.requires.0 _ (c.outline_with.ensures.second refl) c.in_ok-lay_second.ensures

pub returns-in_err-other : goal.returns-in_err-other
returns-in_err-other c =
    let p = err_from_is_err_and c.from_residual-in_err-other.result c.from_residual-in_err-other.ensures.1 in
    let F = first-seen c.requires.0 _ c.requires.1 in
    let q = second-unseen c.requires.0 _ (c.outline_with.ensures.second refl) c.in_ok-lay_second.ensures _ _ _ c.see_field.ensures c.in_err-other.was in
    rw (p.1, p.2) (second-refused c.args.p c.args.due.number c.args.first.now c.args.second.now c.requires.0.same F.0 _ q)

pub complete-x-requires : goal.complete-x-requires
complete-x-requires c =
    let F = first-seen c.requires.0 _ c.requires.1 in
    let S = second-seen c.requires.0 _ (c.outline_with.ensures.second refl) c.in_ok-lay_second.ensures _ _ _ c.see_field.ensures c.in_ok-other.was in
    first-due c.args.p c.args.due.number c.args.first.now c.args.second.now c.requires.0.same F.0 S.0 _ S.2

pub write_granted-requires : goal.write_granted-requires
write_granted-requires c = first-granted c.requires.0 _ (c.outline_with-then-held-p.ensures.first refl)

pub returns-in_err-written : goal.returns-in_err-written
unfolding completing first_due
returns-in_err-written c =
    let F = first-seen c.requires.0 _ c.requires.1 in
    let S = second-seen c.requires.0 _ (c.outline_with.ensures.second refl) c.in_ok-lay_second.ensures _ _ _ c.see_field.ensures c.in_ok-other.was in
    let made = rw (first-shaped c.requires.0 _ (c.outline_with-then-held-p.ensures.first refl)) at c.write_granted.ensures in
    absurd (writes-first-not c.args.p c.args.due.number c.args.first.now c.args.second.now c.requires.0.same F.0 S.0 (λ z. c.if-held-p.true (F.1 ∙ z))
    c.write_granted.result _ (c.complete-x.ensures ∙ rw S.2) made _ c.in_err-written.was)

pub returns-then-held-p : goal.returns-then-held-p
unfolding completing first_due
returns-then-held-p c =
    let F = first-seen c.requires.0 _ c.requires.1 in
    let S = second-seen c.requires.0 _ (c.outline_with.ensures.second refl) c.in_ok-lay_second.ensures _ _ _ c.see_field.ensures c.in_ok-other.was in
    let made = rw (first-shaped c.requires.0 _ (c.outline_with-then-held-p.ensures.first refl)) at c.write_granted.ensures in
    writes-first-is c.args.p c.args.due.number c.args.first.now c.args.second.now c.requires.0.same F.0 S.0 (λ z. c.if-held-p.true (F.1 ∙ z))
    c.write_granted.result _ (c.complete-x.ensures ∙ rw S.2) made _ c.in_ok-written.was (rw c.tell_written.ensures)

pub returns-then-other-p : goal.returns-then-other-p
returns-then-other-p c =
    let F = first-seen c.requires.0 _ c.requires.1 in
    let S = second-seen c.requires.0 _ (c.outline_with.ensures.second refl) c.in_ok-lay_second.ensures _ _ _ c.see_field.ensures c.in_ok-other.was in
    writes-5 c.args.p c.args.due.number c.args.first.now c.args.second.now c.requires.0.same F.0 S.0 (sym F.1 ∙ c.if-held-p.false) (sym S.1 ∙ c.if-other-p.true)

pub complete-x-requires-2 : goal.complete-x-requires-2
complete-x-requires-2 c =
    let F = first-seen c.requires.0 _ c.requires.1 in
    let S = second-seen c.requires.0 _ (c.outline_with.ensures.second refl) c.in_ok-lay_second.ensures _ _ _ c.see_field.ensures c.in_ok-other.was in
    second-due c.args.p c.args.due.number c.args.first.now c.args.second.now c.requires.0.same F.0 S.0 _ F.2

pub write_granted-requires-2 : goal.write_granted-requires-2
write_granted-requires-2 c = second-granted c.requires.0 _ (c.outline_with-2.ensures.second refl) c.in_ok-lay_second.ensures

pub returns-in_err-written-2 : goal.returns-in_err-written-2
unfolding completing second_due
returns-in_err-written-2 c =
    let F = first-seen c.requires.0 _ c.requires.1 in
    let S = second-seen c.requires.0 _ (c.outline_with.ensures.second refl) c.in_ok-lay_second.ensures _ _ _ c.see_field.ensures c.in_ok-other.was in
    let made = rw (second-shaped c.requires.0 _ (c.outline_with-2.ensures.second refl)) at c.write_granted-2.ensures in
    absurd (writes-second-not c.args.p c.args.due.number c.args.first.now c.args.second.now c.requires.0.same F.0 S.0 (sym F.1 ∙ c.if-held-p.false)
    (λ z. c.if-other-p.false (S.1 ∙ z)) c.write_granted-2.result _ (c.complete-x-2.ensures ∙ rw F.2) made _ c.in_err-written-2.was)

pub returns : goal.returns
unfolding completing second_due
returns c =
    let F = first-seen c.requires.0 _ c.requires.1 in
    let S = second-seen c.requires.0 _ (c.outline_with.ensures.second refl) c.in_ok-lay_second.ensures _ _ _ c.see_field.ensures c.in_ok-other.was in
    let made = rw (second-shaped c.requires.0 _ (c.outline_with-2.ensures.second refl)) at c.write_granted-2.ensures in
    writes-second-is c.args.p c.args.due.number c.args.first.now c.args.second.now c.requires.0.same F.0 S.0 (sym F.1 ∙ c.if-held-p.false)
    (λ z. c.if-other-p.false (S.1 ∙ z)) c.write_granted-2.result _ (c.complete-x-2.ensures ∙ rw F.2) made _ c.in_ok-written-2.was (rw c.tell_written-2.ensures)
