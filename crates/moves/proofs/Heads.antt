-- The numbers of a record's head are small enough to be written, whichever kind of dump it stands in.
use Prim.Native.Nat.{ℕ, suc, ◌^◌, ◌<◌}
use mathlib.Core.Path.{◌≡◌, sym, subst, ◌∙◌}
use mathlib.Core.Bool.{false}
use mathlib.Core.List.{List, ◌∷◌, []}
use native.Mathlib.Omega.{arith}
use lib.ListN.{length, get_or}
use borrow.Author.Tests.{leb-false}
use Rattle.code.specs.declared.Kind.{Kind}
use Rattle.code.specs.declared.Kind.TheVariants.{Old, New}
use Rattle.code.specs.Lists.{Below}
use Rattle.code.specs.LayoutList.{Listed, unlisted, listed_numbers, listed_shape, Layouts, broken_list, layouts, layout_list}
use Rattle.code.specs.Dump.{Record, Source, own_layouts, listed_layouts, head_length, record_by, out_of_list, taken, entered, behind_list, opening_as, step}
use Rattle.code.proofs.Tests.{clash}
use Rattle.code.proofs.LayoutCall.{filled_at}
use Rattle.code.proofs.Wits.{Bytes}
use Rattle.code.proofs.Records.{below_at, open-short, step-entered}
use Rattle.code.proofs.Walk.{entered-short, numbers-ahead, step-in-given}
use Rattle.code.proofs.LayoutLists.{AllListable, Listable, listable-at, listable-some, list-was}
use Rattle.records.specs.Source.{source_of, layouts_at}
use Rattle.moves.specs.Passes.{Begins, old_head}

-- the list of a new dump that is opened is read whole
pub list-opened : (bytes places : List ℕ) (start : ℕ) → Begins New bytes places start → layout_list bytes ≡ layouts (layouts_at bytes places) start
unfolding opening_as behind_list source_of
list-opened bytes places start o = go (layout_list bytes) (sym (open-short New bytes (entered-short New bytes _ _ o)) ∙ o)
  where
    go : (r : Layouts) → behind_list r ≡ entered (listed_layouts (layouts_at bytes places)) start → r ≡ layouts (layouts_at bytes places) start
    go broken_list e = clash (cc)
    go (layouts ls first) e = cc

abbrev layout_numbers : Listed → List ℕ
layout_numbers l = l.m ∷ l.t ∷ get_or l.ranges 0 0 ∷ []

listed_below : (l : Listed) → Listable l → Below (2 ^ 63) (layout_numbers l)
unfolding listed_numbers
listed_below l s =
    let b = s.small.1 in
    (b.0, (b.1.0, (below_at (2 ^ 63) l.ranges 0 b.1.1 (listable-some l s), tt)))

-- layouts that a list can hold, where the dump has one
abbrev Holds : Source → Type 0
Holds own_layouts = Unit {0}
Holds (listed_layouts ls) = AllListable ls

by-below : (source : Source) (xs : List ℕ) (start : ℕ) → Holds source → length xs ≡ suc (head_length source) → out_of_list source xs ≡ false → Below (2 ^ 63) xs →
    Below (2 ^ 63) (old_head (record_by source xs start))
unfolding record_by out_of_list listed_shape
by-below own_layouts xs start s n o b =
    let each : (i : ℕ) → i < 5 → get_or xs i 0 < 2 ^ 63 = λ i h. below_at (2 ^ 63) xs i b (omega arith) in
    (each 0 (omega arith), (each 1 (omega arith), (each 2 (omega arith), (each 3 (omega arith), tt))))
by-below (listed_layouts ls) xs start s n o b =
    let l : Listed = get_or ls (get_or xs 1 0) unlisted in
    let first = filled_at 16 l.ranges 0 (omega arith) in
    (below_at (2 ^ 63) xs 0 b (omega arith), rw first (listed_below l (listable-at ls (get_or xs 1 0) s (leb-false (length ls) (get_or xs 1 0) o))))

begins-holds : (kind : Kind) (bytes places : List ℕ) (start : ℕ) → Bytes bytes → Begins kind bytes places start → Holds (source_of kind bytes places)
unfolding source_of
begins-holds Old bytes places start b o = tt
begins-holds New bytes places start b o = (list-was bytes (layouts_at bytes places) start b (list-opened bytes places start o)).listable

pub head-below : (kind : Kind) (bytes places : List ℕ) (start at : ℕ) (r : Record) → Bytes bytes → Begins kind bytes places start →
    step kind bytes at ≡ taken r → Below (2 ^ 63) (old_head r)
head-below kind bytes places start at r b o e =
    let source : Source = source_of kind bytes places in
    let g = step-in-given source bytes at r (sym (step-entered kind bytes at source start o) ∙ e) in
    let a = numbers-ahead (suc (head_length source)) bytes at g.numbers-are g.end g.read in
    subst (λ (p : Record). Below (2 ^ 63) (old_head p)) g.same
    (by-below source g.numbers-are g.end (begins-holds kind bytes places start b o) a.many g.listed (a.small b))
