-- Whole dumps of both kinds: what is written opens and walks back to its layouts and records, and what walks to its end is what would be written.
use Prim.Native.Nat.{ℕ, ◌+◌, ◌-◌, ◌≤◌}
use mathlib.Core.Path.{◌≡◌, refl, sym, ap, subst, ◌∙◌}
use mathlib.Core.List.{List, [], ◌∷◌, ◌++◌}
use native.Mathlib.Omega.{arith}
use native.Mathlib.Numerals.{one-add}
use lib.ListN.{length, drop}
use lib.Seq.{drop-append_seam}
use Rattle.code.specs.declared.Kind.{Kind}
use Rattle.code.specs.declared.Kind.TheVariants.{Old, New}
use Rattle.code.specs.Numerals.{numerals_of}
use Rattle.code.specs.LayoutList.{Listed, layouts_of, Layouts, broken_list, layouts, layout_list}
use Rattle.code.specs.Dump.{Source, own_layouts, listed_layouts, Opening, barred, entered, behind_list, opening_as, opening, start_of, walk}
use Rattle.code.specs.NewDump.{Entry, records_of, new_dump_of, entries_of, stop_of, listed_in}
use Rattle.code.proofs.Tests.{clash}
use Rattle.code.proofs.Wits.{Bytes}
use Rattle.code.proofs.Records.{open-short, step-barred}
use Rattle.code.proofs.Walk.{entered-short, walk-stopped}
use Rattle.code.proofs.Parsed.{AllSound, steps_of, walk-records, records-whole, records-parsed, records-printed}
use Rattle.code.proofs.LayoutLists.{AllListable, count-byte, list-within, list-reads, list-was}

-- what a dump is by the way its records say their layouts: its kind, the records behind its list, where they begin, and the lists that it can have
abbrev pub kind_for : Source → Kind
kind_for own_layouts = Old
kind_for (listed_layouts ls) = New

abbrev pub fronted : Source → List ℕ → List ℕ
fronted own_layouts records = records
fronted (listed_layouts ls) records = numerals_of (length ls ∷ []) ++ (layouts_of ls ++ records)

abbrev pub start_for : Source → ℕ
start_for own_layouts = 0
start_for (listed_layouts ls) = 1 + length (layouts_of ls)

abbrev pub Sayable : Source → Type 0
Sayable own_layouts = Unit {0}
Sayable (listed_layouts ls) = AllListable ls × (length ls ≤ 64)

-- what a dump was written with
abbrev pub source_of : Kind → List ℕ → Source
source_of Old bytes = own_layouts
source_of New bytes = listed_layouts (listed_in (layout_list bytes))

open-new : (bytes : List ℕ) (ls : List Listed) (start : ℕ) → layout_list bytes ≡ layouts ls start → length bytes ≤ 65536 →
    opening New bytes ≡ entered (listed_layouts ls) start
unfolding opening_as behind_list
open-new bytes ls start e short = open-short New bytes short ∙ rw e

pub opens : (source : Source) (records : List ℕ) → Sayable source → length (fronted source records) ≤ 65536 →
    opening (kind_for source) (fronted source records) ≡ entered source (start_for source)
unfolding opening_as
opens own_layouts records s short = open-short Old records short
opens (listed_layouts ls) records s short =
    open-new (fronted (listed_layouts ls) records) ls (start_for (listed_layouts ls)) (list-reads ls records s.0 s.1) short

names : (source : Source) (records : List ℕ) → Sayable source → source_of (kind_for source) (fronted source records) ≡ source
unfolding listed_in
names own_layouts records s = refl
names (listed_layouts ls) records s = ap (λ l. listed_layouts (listed_in l)) (list-reads ls records s.0 s.1)

behind-front : (source : Source) (records : List ℕ) → Sayable source → drop (start_for source) (fronted source records) ≡ records
behind-front own_layouts records s = refl
behind-front (listed_layouts ls) records s = rw (count-byte (length ls) s.1, one-add) (drop-append_seam (layouts_of ls) records)

-- printed and parsed, layouts and records are the same
pub record Reads (source : Source) (es : List Entry) (bytes : List ℕ) : Type 0 where
  pub enters : opening (kind_for source) bytes ≡ entered source (start_for source)
  pub named : source_of (kind_for source) bytes ≡ source
  pub steps : walk (kind_for source) bytes ≡ steps_of source (start_for source) es
  pub whole : stop_of (walk (kind_for source) bytes) ≡ []
  pub parsed : entries_of bytes (walk (kind_for source) bytes) ≡ es

pub dump-parsed : (source : Source) (es : List Entry) → Sayable source → AllSound source es → length (fronted source (records_of source es)) ≤ 65536 →
    Reads source es (fronted source (records_of source es))
dump-parsed source es s sound short =
    let records : List ℕ = records_of source es in
    let bytes : List ℕ = fronted source records in
    let o = opens source records s short in
    let e = behind-front source records s in
    record {
      enters = o;
      named = names source records s;
      steps = walk-records (kind_for source) bytes source (start_for source) o es sound e;
      whole = records-whole (kind_for source) bytes source (start_for source) o es sound e;
      parsed = records-parsed (kind_for source) bytes source (start_for source) o es sound e;
    }

-- A dump that opens has the source of its kind, and begins with its list.
record Opened (bytes : List ℕ) (source : Source) (first : ℕ) (named : Source) : Type 0 where
  same : source ≡ named
  sayable : Sayable source
  front : fronted source (drop first bytes) ≡ bytes

opened-new : (bytes : List ℕ) (ls : Layouts) (source : Source) (first : ℕ) → Bytes bytes → layout_list bytes ≡ ls → behind_list ls ≡ entered source first →
    Opened bytes source first (listed_layouts (listed_in ls))
unfolding behind_list listed_in
opened-new bytes broken_list source first b q e = clash (cc)
opened-new bytes (layouts ls start) source first b q e =
    let s : listed_layouts ls ≡ source = cc in
    let f : start ≡ first = cc in
    let w = list-was bytes ls start b q in
    rw (← s, ← f) record { same = refl; sayable = (w.listable, w.few); front = sym w.back }

opened-as : (kind : Kind) (bytes : List ℕ) (source : Source) (first : ℕ) → Bytes bytes → opening_as kind bytes ≡ entered source first →
    Opened bytes source first (source_of kind bytes)
unfolding opening_as
opened-as Old bytes source first b e =
    let s : own_layouts ≡ source = cc in
    let f : 0 ≡ first = cc in
    rw (← s, ← f) record { same = refl; sayable = tt; front = refl }
opened-as New bytes source first b e = opened-new bytes (layout_list bytes) source first b refl e

-- the records of a dump begin within it
pub entered-within : (kind : Kind) (bytes : List ℕ) (source : Source) (first : ℕ) → opening kind bytes ≡ entered source first → first ≤ length bytes
unfolding opening_as behind_list
entered-within kind bytes source first e =
    go kind (layout_list bytes) refl (sym (open-short kind bytes (entered-short kind bytes source first e)) ∙ e)
  where
    go : (kind : Kind) (r : Layouts) → layout_list bytes ≡ r → opening_as kind bytes ≡ entered source first → first ≤ length bytes
    go Old r q e = let z : 0 ≡ first = cc in omega arith
    go New broken_list q e = let e' = rw q at e in clash (cc)
    go New (layouts ls start) q e = let e' = rw q at e in let z : start ≡ first = cc in omega (arith, list-within bytes ls start q)

-- a walk that meets the end is of a dump that opens
pub unbarred : (kind : Kind) (bytes : List ℕ) → stop_of (walk kind bytes) ≡ [] → (source : Source) × (first : ℕ) × (opening kind bytes ≡ entered source first)
unfolding walk start_of stop_of
unbarred kind bytes e = go (opening kind bytes) refl
  where
    go : (o : Opening) → opening kind bytes ≡ o → (source : Source) × (first : ℕ) × (opening kind bytes ≡ entered source first)
    go (barred k carried) q =
        let e' = rw (q, walk-stopped kind bytes (length bytes - 0) 0 k carried (step-barred kind bytes 0 k carried q)) at e in
        clash (cc)
    go (entered source first) q = (source, first, q)

-- parsed and printed, a dump is the same
pub record DumpWas (kind : Kind) (bytes : List ℕ) : Type 0 where
  pub first : ℕ
  pub enters : opening kind bytes ≡ entered (source_of kind bytes) first
  pub short : length bytes ≤ 65536
  pub sayable : Sayable (source_of kind bytes)
  pub sound : AllSound (source_of kind bytes) (entries_of bytes (walk kind bytes))
  pub back : fronted (source_of kind bytes) (records_of (source_of kind bytes) (entries_of bytes (walk kind bytes))) ≡ bytes

pub dump-was : (kind : Kind) (bytes : List ℕ) → Bytes bytes → stop_of (walk kind bytes) ≡ [] → DumpWas kind bytes
dump-was kind bytes b e =
    let u = unbarred kind bytes e in
    let short = entered-short kind bytes u.0 u.1 u.2 in
    let w = opened-as kind bytes u.0 u.1 b (sym (open-short kind bytes short) ∙ u.2) in
    let o : opening kind bytes ≡ entered (source_of kind bytes) u.1 = u.2 ∙ ap (λ source. entered source u.1) w.same in
    let p = records-printed kind bytes (source_of kind bytes) u.1 o b e in
    record {
      first = u.1;
      enters = o;
      short = short;
      sayable = subst Sayable w.same w.sayable;
      sound = p.sound;
      back = rw p.back (subst (λ source. fronted source (drop u.1 bytes) ≡ bytes) w.same w.front);
    }

-- the same of new dumps
pub new-parsed : (ls : List Listed) (es : List Entry) → AllListable ls → length ls ≤ 64 → AllSound (listed_layouts ls) es → length (new_dump_of ls es) ≤ 65536 →
    Reads (listed_layouts ls) es (new_dump_of ls es)
unfolding new_dump_of
new-parsed ls es s few = dump-parsed (listed_layouts ls) es (s, few)

pub new-printed : (bytes : List ℕ) → Bytes bytes → stop_of (walk New bytes) ≡ [] →
    new_dump_of (listed_in (layout_list bytes)) (entries_of bytes (walk New bytes)) ≡ bytes
unfolding new_dump_of
new-printed bytes b e = (dump-was New bytes b e).back
