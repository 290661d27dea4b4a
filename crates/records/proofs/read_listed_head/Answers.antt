use Rattle.std.proofs.Common.{◌≡◌, refl, arith, None, Some}
use Rattle.std.proofs.lemmas.Result.{err_from_is_err_and}
use Rattle.code.specs.Dump.{listed_layouts, record_by}
use Rattle.records.specs.Head.{said_shape}
use Rattle.records.specs.Source.{layouts_at}
use Rattle.records.proofs.Laws.{head-cut, head-within, head-off, head-headed, off_list_lem, on_list}
use Rattle.records.proofs.read_listed_head.Goals as goal

pub returns-in_err-start : goal.returns-in_err-start
returns-in_err-start c =
    let p = err_from_is_err_and c.from_residual.result c.from_residual.ensures.1 in
    let none : c.read_numbers.result ≡ None = grind arith in
    let why : c.in_err-start.field-0.0 ≡ record { offset = c.args.at } = grind arith in
    rw (p.1, p.2, why) (head-cut (listed_layouts (layouts_at c.args.dump.now c.args.places.now)) _ _ _ c.read_numbers.ensures none)

pub returns-then-places-layout : goal.returns-then-places-layout
returns-then-places-layout c =
    let some : c.read_numbers.result ≡ Some c.in_ok-start.start = grind arith in
    head-off (listed_layouts (layouts_at c.args.dump.now c.args.places.now)) _ _ _ c.read_numbers.ensures some (off_list_lem _ _ _ c.if-places-layout.true)

pub whole-requires : goal.whole-requires
whole-requires c =
    let some : c.read_numbers.result ≡ Some c.in_ok-start.start = grind arith in
    head-within (listed_layouts (layouts_at c.args.dump.now c.args.places.now)) _ _ _ c.read_numbers.ensures some

pub returns : goal.returns
unfolding record_by said_shape
returns c =
    let some : c.read_numbers.result ≡ Some c.in_ok-start.start = grind arith in
    rw c.whole.ensures
    (head-headed (listed_layouts (layouts_at c.args.dump.now c.args.places.now)) _ _ _ c.read_numbers.ensures some _ (on_list _ _ _ c.if-places-layout.false) refl refl)
