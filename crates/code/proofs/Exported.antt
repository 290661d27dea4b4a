-- What the export calls stored walks back: records one after the other are an old dump, and behind a count and as many layouts a new one.
use Prim.Native.Nat.{ℕ, ◌-◌, ◌^◌, ◌≤◌, ◌<◌}
use mathlib.Core.Path.{◌≡◌, refl, sym, ap, ◌∙◌}
use mathlib.Core.Bool.{Bool, true, false, cond}
use mathlib.Core.List.{List, [], ◌∷◌, ◌++◌, map}
use native.Mathlib.Omega.{arith}
use lib.Dec.{ltb, eqb}
use lib.ListN.{length, get_or, take, drop, length-map, get_or-map}
use borrow.Author.Tests.{ltb-false, le-leb}
use Rattle.code.specs.declared.Kind.TheVariants.{New}
use Rattle.code.specs.declared.Shape.{Shape}
use Rattle.code.specs.Lists.{Below}
use Rattle.code.specs.Shape.{single, shaped, ranges_due, given, outside, misfit, counts_of}
use Rattle.code.proofs.LayoutCall.{Bounds}
use Rattle.code.specs.Cells.{listed}
use Rattle.code.specs.Calls.{unsound, length_in, refusal_in}
use Rattle.code.specs.LayoutList.{Listed, listed_numbers, unlisted, listed_shape, listed_of, layouts_of, uncounted}
use Rattle.code.specs.Export.{record_of, Exporting, old_export, new_export, export_refusal, export_reply, export_leaves}
use Rattle.code.specs.Dump.{Source, own_layouts, listed_layouts, walk}
use Rattle.code.specs.NewDump.{Entry, entry_head, records_of, layout_export_refusal, layout_export_reply, layout_export_leaves}
use Rattle.code.proofs.Tests.{clash, and-false}
use Rattle.code.proofs.ByteLists.{below_each}
use Rattle.code.proofs.LayoutCall.{given-length, given-at, outside-within, passed}
use Rattle.code.proofs.Stores.{tests-refuse, reply-told, accepted, stored-made}
use Rattle.code.proofs.Parsed.{Listing, Sound, AllSound}
use Rattle.code.proofs.LayoutLists.{Listable, AllListable, single-shape, layouts-append, count-byte}
use Rattle.code.proofs.Tidied.{tidied, read-tidied, numbers-tidied}
use Rattle.code.proofs.Told.{told_of, told_by, told-by}
use Rattle.code.proofs.Dumps.{kind_for, fronted, Sayable, Reads, dump-parsed}

-- An export that is accepted: what its tests tell, and what a caller takes of the output.
module _ (x : Exporting) (cells out : List ℕ) where
  pub record Exports : Type 0 where
    pub early : x.serial < 2 ^ 63
    pub listed : x.off_list ≡ false
    pub bounds : Bounds x.shape
    pub fits : length (record_of x.head cells) ≤ length out

  on_list : (a b : Bool) → cond a true b ≡ false → (a ≡ false) × (b ≡ false)
  on_list true b e = clash (cc)
  on_list false b e = (refl, e)

  pub export-none : refusal_in (export_reply x cells out) ≡ 0 → export_refusal x cells out ≡ []
  unfolding export_reply export_refusal
  export-none e =
      reply-told (export_refusal x cells out) (length (record_of x.head cells) ∷ [])
      (tests-refuse _ (omega arith, (omega arith, (omega arith, (omega arith, (omega arith, tt)))))) e

  pub export-told : refusal_in (export_reply x cells out) ≡ 0 → Exports
  unfolding export_refusal
  export-told e =
      let a = passed 10 [] (ltb (2 ^ 63 - 1) x.serial) _ (export-none e) in
      let b = passed 1 [] (cond x.off_list true (outside x.shape 256)) _ a.1 in
      let c = passed 2 [] (misfit 256 (counts_of x.shape)) _ b.1 in
      let d = passed 3 [] (unsound x.shape cells) _ c.1 in
      let f = passed 9 [] (ltb (length out) (length (record_of x.head cells))) [] d.1 in
      let o = on_list x.off_list (outside x.shape 256) b.0 in
      record {
        early = omega (arith, ltb-false (2 ^ 63 - 1) x.serial a.0);
        listed = o.0;
        bounds = (outside-within x.shape 256 o.1).bounds;
        fits = ltb-false (length out) (length (record_of x.head cells)) f.0;
      }

  abbrev pub stored_record : List ℕ
  stored_record = take (length_in (export_reply x cells out)) (export_leaves x cells out)

  pub stored-record : refusal_in (export_reply x cells out) ≡ 0 → stored_record ≡ record_of x.head cells
  unfolding export_reply export_leaves
  stored-record e =
      let made = record_of x.head cells in
      stored-made made (export_reply x cells out) (export_leaves x cells out) out
      (accepted (export_refusal x cells out) made out (export-none e) (export-told e).fits)

-- within the bounds each range can be written
pub ranges-below : (s : Shape) → Bounds s → Below (2 ^ 63) (given s)
ranges-below s b = below_each (2 ^ 63) (given s) (λ i l.
    let c : i < s.count = omega (arith, given-length s) in omega (arith, given-at s i c, b.v_high i c))

-- within the bounds t can be told to count the ranges
bounded-counted : (s : Shape) → Bounds s → (vs : List ℕ) → uncounted (s.form ∷ s.m ∷ s.t ∷ vs) ≡ false
unfolding uncounted
bounded-counted s b vs = rw (le-leb 2 s.t b.t-low, le-leb s.t 16 b.t-high) (and-false (eqb s.form 2))

-- The same of the export of a layout.
module _ (s : Shape) (out : List ℕ) where
  layout-none : refusal_in (layout_export_reply s out) ≡ 0 → layout_export_refusal s out ≡ []
  unfolding layout_export_reply layout_export_refusal
  layout-none e =
      reply-told (layout_export_refusal s out) (length (layouts_of (listed_of s ∷ [])) ∷ []) (tests-refuse _ (omega arith, (omega arith, (omega arith, tt)))) e

  layout-told : refusal_in (layout_export_reply s out) ≡ 0 → Bounds s × (length (layouts_of (listed_of s ∷ [])) ≤ length out)
  unfolding layout_export_refusal
  layout-told e =
      let a = passed 1 [] (outside s 256) _ (layout-none e) in
      let b = passed 2 [] (misfit 256 (counts_of s)) _ a.1 in
      let c = passed 9 [] (ltb (length out) (length (layouts_of (listed_of s ∷ [])))) [] b.1 in
      ((outside-within s 256 a.0).bounds, ltb-false (length out) (length (layouts_of (listed_of s ∷ []))) c.0)

  abbrev pub stored_layout : List ℕ
  stored_layout = take (length_in (layout_export_reply s out)) (layout_export_leaves s out)

  pub stored-layout : refusal_in (layout_export_reply s out) ≡ 0 → stored_layout ≡ layouts_of (listed_of s ∷ [])
  unfolding layout_export_reply layout_export_leaves
  stored-layout e =
      let made = layouts_of (listed_of s ∷ []) in
      stored-made made (layout_export_reply s out) (layout_export_leaves s out) out
      (accepted (layout_export_refusal s out) made out (layout-none e) (layout-told e).1)

  exported-listable : refusal_in (layout_export_reply s out) ≡ 0 → Listable (listed_of s)
  unfolding listed_numbers listed_of
  exported-listable e =
      let b = (layout-told e).0 in
      record {
        small = (omega (arith, b.form-high), (omega (arith, b.m-high), (omega (arith, b.t-high), ranges-below s b)));
        counted = bounded-counted s b (given s);
        due = given-length s ∙ b.due;
      }

-- the export of an entry
abbrev pub export_of : Source → Entry → Exporting
export_of own_layouts e = old_export e.serial e.shape.m e.shape.t (get_or e.shape.v 0 0)
export_of (listed_layouts ls) e = new_export e.serial e.layout e.shape

pub export-head : (source : Source) (e : Entry) → (export_of source e).head ≡ entry_head source e
unfolding entry_head
export-head own_layouts e = refl
export-head (listed_layouts ls) e = refl

-- What an export says of its layout, which is what a dump can tell: m, t and v in an old record, so that the form is 0 and one range is given; in a new one
-- the number of a listed layout with the same form, m, t and ranges given. What stands behind these ranges in the shape is not looked at.
abbrev pub Said : Source → Entry → Type 0
Said own_layouts e = (e.layout ≡ 0) × (e.shape.form ≡ 0) × (e.shape.count ≡ 1)
Said (listed_layouts ls) e = (e.layout < length ls) × (listed_of e.shape ≡ get_or ls e.layout unlisted)

-- an entry as a dump gives it back: its shape has 0 behind the ranges given
abbrev pub as_said : Entry → Entry
as_said e = record { serial = e.serial; layout = e.layout; shape = tidied e.shape; cells = e.cells }

-- an accepted export is of a shape within its bounds
pub export-bounded : (source : Source) (e : Entry) (out : List ℕ) → Said source e → Exports (export_of source e) e.cells out → Bounds e.shape
unfolding ranges_due
export-bounded own_layouts e out said x =
    let b = x.bounds in
    let form = said.1 in
    record {
      form-high = omega arith;
      m-low = b.m-low;
      m-high = b.m-high;
      t-low = b.t-low;
      t-high = b.t-high;
      due = rw form said.2;
      v_low = λ i l. let z : i ≡ 0 = omega (arith, said.2) in rw z (b.v_low 0 (omega arith));
      v_high = λ i l. let z : i ≡ 0 = omega (arith, said.2) in rw z (b.v_high 0 (omega arith));
    }
export-bounded (listed_layouts ls) e out said x = x.bounds

-- its head is that of the entry as the dump gives it back, which the dump can say
pub head-said : (source : Source) (e : Entry) → Bounds e.shape → entry_head source (as_said e) ≡ entry_head source e
unfolding entry_head
head-said own_layouts e b = ap (λ (numbers : List ℕ). e.serial ∷ drop 1 numbers) (numbers-tidied e.shape b)
head-said (listed_layouts ls) e b = refl

listing-said : (source : Source) (e : Entry) → Said source e → Listing source (as_said e)
unfolding listed_of
listing-said own_layouts e said =
    let s = e.shape in
    let plain : Shape → Shape = λ y. shaped y.m y.t (get_or y.v 0 0) in
    let old = ap (λ form. single form s.m s.t (get_or (given s) 0 0)) said.1 in
    let q : tidied s ≡ shaped s.m s.t (get_or (given s) 0 0) = single-shape (listed_of s) (given-length s ∙ said.2) ∙ old in
    (said.0, q ∙ sym (ap plain q))
listing-said (listed_layouts ls) e said = (said.0, ap listed_shape said.1)

small-said : (source : Source) (e : Entry) (out : List ℕ) → Exports (export_of source e) e.cells out → Below (2 ^ 63) (entry_head source e)
unfolding entry_head
small-said own_layouts e out x =
    let b = x.bounds in
    (x.early, (omega (arith, b.m-high), (omega (arith, b.t-high), (omega (arith, b.v_high 0 (omega arith)), tt))))
small-said (listed_layouts ls) e out x = (x.early, (omega (arith, ltb-false 63 e.layout x.listed), tt))

pub export-sound : (source : Source) (e : Entry) (out : List ℕ) → Exports (export_of source e) e.cells out → Said source e → Sound source (as_said e)
export-sound source e out x said = record {
  small = rw (head-said source e (export-bounded source e out said x)) (small-said source e out x);
  listing = listing-said source e said;
}

-- exports one after the other, each with its output: all are accepted, of layouts that the dump can say
abbrev pub Calls : Type 0
Calls = List (Entry × List ℕ)

abbrev pub AllExported : Source → Calls → Type 0
AllExported source [] = Unit {0}
AllExported source (c ∷ cs) =
    (refusal_in (export_reply (export_of source c.0) c.0.cells c.1) ≡ 0) × Said source c.0 × AllExported source cs

abbrev pub exported_of : Calls → List Entry
exported_of calls = map (λ (c : Entry × List ℕ). c.0) calls

abbrev pub stored_records : Source → Calls → List ℕ
stored_records source [] = []
stored_records source (c ∷ cs) = stored_record (export_of source c.0) c.0.cells c.1 ++ stored_records source cs

-- what is known of one of them
module _ (source : Source) (e : Entry) (out : List ℕ) (h : refusal_in (export_reply (export_of source e) e.cells out) ≡ 0) (said : Said source e) where
  told : Exports (export_of source e) e.cells out
  told = export-told (export_of source e) e.cells out h

  pub accepted-bounded : Bounds e.shape
  accepted-bounded = export-bounded source e out said told

  pub accepted-sound : Sound source (as_said e)
  accepted-sound = export-sound source e out told said

  pub accepted-stored : stored_record (export_of source e) e.cells out ≡ record_of (entry_head source (as_said e)) e.cells
  accepted-stored =
      stored-record (export_of source e) e.cells out h
      ∙ ap (λ head. record_of head e.cells) (export-head source e ∙ sym (head-said source e accepted-bounded))

exported-sound : (source : Source) (calls : Calls) → AllExported source calls → AllSound source (map as_said (exported_of calls))
exported-sound source [] h = tt
exported-sound source (c ∷ cs) h = (accepted-sound source c.0 c.1 h.0 h.1, exported-sound source cs h.2)

exported-records : (source : Source) (calls : Calls) → AllExported source calls →
    stored_records source calls ≡ records_of source (map as_said (exported_of calls))
unfolding records_of
exported-records source [] h = refl
exported-records source (c ∷ cs) h = cc (accepted-stored source c.0 c.1 h.0 h.1, exported-records source cs h.2)

-- read by the shapes that the dump gives back or by those exported, they tell the same
told-said : (source : Source) (calls : Calls) → AllExported source calls → told_by (map as_said (exported_of calls)) ≡ told_by (exported_of calls)
unfolding told_by
told-said source [] h = refl
told-said source (c ∷ cs) h =
    let s = c.0.shape in
    let b = accepted-bounded source c.0 c.1 h.0 h.1 in
    cc (numbers-tidied s b, read-tidied s b c.0.cells, told-said source cs h.2)

-- A dump of exported records.
module _ (source : Source) (calls : Calls) (s : Sayable source) (h : AllExported source calls)
    (short : length (fronted source (stored_records source calls)) ≤ 65536) where
  -- it walks back to them
  pub exports-walk : Reads source (map as_said (exported_of calls)) (fronted source (stored_records source calls))
  exports-walk =
      let records = exported-records source calls h in
      rw records (dump-parsed source (map as_said (exported_of calls)) s (exported-sound source calls h) (rw records at short))

  -- so reading a record's cells gives what reading the exported cells by the exported shape gives
  pub exports-told :
      let dump = fronted source (stored_records source calls) in told_of dump (walk (kind_for source) dump) ≡ told_by (exported_of calls)
  exports-told =
      let dump = fronted source (stored_records source calls) in
      told-by dump (walk (kind_for source) dump) ∙ ap told_by exports-walk.parsed ∙ told-said source calls h

-- exports of layouts, each with its output
abbrev pub LayoutCalls : Type 0
LayoutCalls = List (Shape × List ℕ)

abbrev pub AllLayouts : LayoutCalls → Type 0
AllLayouts [] = Unit {0}
AllLayouts (c ∷ cs) = (refusal_in (layout_export_reply c.0 c.1) ≡ 0) × AllLayouts cs

abbrev pub shapes_of : LayoutCalls → List Shape
shapes_of calls = map (λ (c : Shape × List ℕ). c.0) calls

abbrev pub stored_layouts : LayoutCalls → List ℕ
stored_layouts [] = []
stored_layouts (c ∷ cs) = stored_layout c.0 c.1 ++ stored_layouts cs

exported-layouts : (calls : LayoutCalls) → AllLayouts calls →
    AllListable (map listed_of (shapes_of calls)) × (stored_layouts calls ≡ layouts_of (map listed_of (shapes_of calls)))
unfolding layouts_of
exported-layouts [] h = (tt, refl)
exported-layouts (c ∷ cs) h =
    let ih = exported-layouts cs h.1 in
    let l = listed_of c.0 in (
      (exported-listable c.0 c.1 h.0, ih.0),
      rw (stored-layout c.0 c.1 h.0, ih.1) (sym (layouts-append (l ∷ []) (map listed_of (shapes_of cs)))),
    )

layout-at : (shapes : List Shape) (i : ℕ) → get_or (map listed_of shapes) i unlisted ≡ listed_of (get_or shapes i (shaped 0 0 0))
unfolding listed_of given listed
layout-at shapes i = get_or-map listed_of shapes i (shaped 0 0 0)

-- A new dump of exports: a count byte, so many exported layouts, and behind them records that were exported with the number of a layout and with its form, m, t
-- and ranges.
module _ (layout_calls : LayoutCalls) where
  abbrev pub exported_list : List Listed
  exported_list = map listed_of (shapes_of layout_calls)

  abbrev pub exported_dump : Calls → List ℕ
  exported_dump calls = length layout_calls ∷ (stored_layouts layout_calls ++ stored_records (listed_layouts exported_list) calls)

  abbrev pub AllNumbered : Calls → Type 0
  AllNumbered [] = Unit {0}
  AllNumbered (c ∷ cs) =
      (refusal_in (export_reply (new_export c.0.serial c.0.layout c.0.shape) c.0.cells c.1) ≡ 0)
      × (c.0.layout < length layout_calls)
      × (listed_of c.0.shape ≡ listed_of (get_or (shapes_of layout_calls) c.0.layout (shaped 0 0 0))) × AllNumbered cs

  long : length exported_list ≡ length layout_calls
  long = length-map (shapes_of layout_calls) listed_of ∙ length-map layout_calls (λ (c : Shape × List ℕ). c.0)

  all-exported : (cs : Calls) → AllNumbered cs → AllExported (listed_layouts exported_list) cs
  all-exported [] h = tt
  all-exported (c ∷ cs) h =
      (h.0, (omega (arith, long, h.1), h.2 ∙ sym (layout-at (shapes_of layout_calls) c.0.layout)), all-exported cs h.3)

  module _ (calls : Calls) (few : length layout_calls ≤ 64) (ls : AllLayouts layout_calls) (h : AllNumbered calls) (short : length (exported_dump calls) ≤ 65536) where
    sayable : Sayable (listed_layouts exported_list)
    sayable = ((exported-layouts layout_calls ls).0, omega (arith, long))

    dump-is : let source : Source = listed_layouts exported_list in fronted source (stored_records source calls) ≡ exported_dump calls
    dump-is = rw (count-byte (length exported_list) sayable.1, long, (exported-layouts layout_calls ls).1)

    -- it opens with the layouts and walks to the records: each with its serial, number, cells and the shape as a dump gives it back
    pub new-exports-walk : Reads (listed_layouts exported_list) (map as_said (exported_of calls)) (exported_dump calls)
    new-exports-walk = rw dump-is at (exports-walk (listed_layouts exported_list) calls sayable (all-exported calls h) (rw dump-is short))

    -- so reading a record's cells gives what reading the exported cells by the exported shape gives
    pub new-exports-told : told_of (exported_dump calls) (walk New (exported_dump calls)) ≡ told_by (exported_of calls)
    new-exports-told = rw dump-is at (exports-told (listed_layouts exported_list) calls sayable (all-exported calls h) (rw dump-is short))
