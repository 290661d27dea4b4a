use Rattle.std.proofs.Common.{None, Ok, ap, ◌≡◌, ◌∙◌, sym, arith, [], ◌∷◌}
use Rattle.code.specs.declared.Kind.TheVariants.{Old}
use Rattle.code.specs.Export.{record_of}
use Rattle.code.specs.Dump.{listed_layouts, cells_of}
use Rattle.code.proofs.Walk.{step-forward}
use Rattle.records.specs.Source.{source_of}
use Rattle.records.specs.Head.{head_record}
use Rattle.moves.specs.Kept.{said_listed, kept_layouts}
use Rattle.moves.specs.Passes.{cells_at}
use Rattle.moves.proofs.Heads.{head-below}
use Rattle.moves.proofs.Storing.{moved_at, filling-begin, filling-next, filling-end, filling-stop}
use Rattle.moves.proofs.Keeping.{place-most, kept-long}
use Rattle.moves.proofs.ToNew.{own-said, number_at}
use Rattle.moves.proofs.to_new.put_records.Goals as goal

pub loop-head-init : goal.loop-head-init
loop-head-init c = filling-begin _ _ _ _ _ _ c.requires.0 _ _ c.requires.3

pub put_moved-place-requires-clause-below : goal.put_moved-place-requires-clause-below
put_moved-place-requires-clause-below c =
    let e = sym (rw c.in-Ok-Some.field-0-is at c.in-Ok-Some.ensures) in
    let a = c.args in
    let serial = (head-below Old _ _ _ _ _ (λ i h. omega (arith, c.type_inv.dump i)) c.requires.0 e).0 in
    let most = place-most (kept_layouts a.layouts a.kept.now) (said_listed c.in-Ok-Some.head.said) in
    ((serial, (omega (arith, c.place_of-number.ensures, most, kept-long a.kept.now a.layouts, c.requires.1), tt)), omega arith)

pub put_moved-place-requires-clause-head_in_bounds : goal.put_moved-place-requires-clause-head_in_bounds
put_moved-place-requires-clause-head_in_bounds c =
    let e = sym (rw c.in-Ok-Some.field-0-is at c.in-Ok-Some.ensures) in
    ((step-forward Old _ _ _ e).2, c.loop-head.invariant.inside)

pub overflow_add-at : goal.overflow_add-at
overflow_add-at c =
    let e = sym (rw c.in-Ok-Some.field-0-is at c.in-Ok-Some.ensures) in
    omega (arith, step-forward Old _ _ _ e)

pub loop-head-smaller : goal.loop-head-smaller
loop-head-smaller c =
    let e = sym (rw c.in-Ok-Some.field-0-is at c.in-Ok-Some.ensures) in
    omega (arith, step-forward Old _ _ _ e)

pub loop-head-preserved : goal.loop-head-preserved
unfolding cells_of
loop-head-preserved c =
    let e = sym (rw c.in-Ok-Some.field-0-is at c.in-Ok-Some.ensures) in
    let a = c.args in
    let h = c.in-Ok-Some.head in
    let r = head_record (source_of Old a.dump.now a.places.now) h in
    let ls = kept_layouts a.layouts a.kept.now in
    let moved : record_of (h.serial ∷ c.place_of-number.result ∷ []) (cells_at a.dump.now h) ≡ moved_at (listed_layouts ls) ls a.dump.now r =
    number_at _ _ r _ (c.place_of-number.ensures ∙ rw (own-said a.dump.now a.places.now h.said)) in
    filling-next c.loop-head.invariant _ e (rw moved at c.put_moved-place.ensures)

pub returns-in_default : goal.returns-in_default
returns-in_default c w h =
    let none : c.in_default.field-0 ≡ None = cc in
    let told : c.locate.result ≡ Ok None = c.in_default.is ∙ ap Ok none in
    filling-end c.loop-head.invariant (sym (rw told at c.locate.ensures)) h

pub returns-in_default-2 : goal.returns-in_default-2
returns-in_default-2 c w h = filling-stop c.loop-head.invariant w c.in_default.field-0 (sym (rw c.in_default.is at c.locate.ensures))
