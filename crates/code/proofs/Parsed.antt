-- Dumps as lists of records, however these say their layouts: a walk that meets the end gives the records that the bytes are, and written records walk back.
use Prim.Native.Nat.{ℕ, zero, suc, ◌+◌, ◌-◌, ◌^◌, ◌≤◌, ◌<◌}
use mathlib.Core.Path.{◌≡◌, refl, sym, ap, subst, ◌∙◌}
use mathlib.Core.Logic.{inl, inr}
use mathlib.Core.Bool.{Bool, true, false, cond}
use mathlib.Core.List.{List, [], ◌∷◌, ◌++◌, append_assoc}
use native.Mathlib.Omega.{arith}
use lib.ListN.{length, get_or, take, drop, length-drop, take-append-drop, drop_of_length-le}
use lib.Seq.{drop-cons, drop-drop, length-take-le}
use borrow.Author.Tests.{lt-leb, leb-false}
use Rattle.code.specs.declared.Kind.{Kind}
use Rattle.code.specs.Lists.{Below}
use Rattle.code.specs.Shape.{shaped}
use Rattle.code.specs.Numerals.{numerals_of, Numbers, cut, numbers, read_numbers}
use Rattle.code.specs.LayoutList.{unlisted, listed_shape}
use Rattle.code.specs.Dump.{Record, Source, own_layouts, listed_layouts, head_length, Step, taken, ended, stopped, record_by, out_of_list, broken, found, record_at, step_in}
use Rattle.code.specs.Export.{record_of}
use Rattle.code.specs.Dump.{entered, opening, step, cells_of, walk_from, onward, start_of, walk}
use Rattle.code.specs.NewDump.{Entry, entry_head, records_of, entries_of, stop_of}
use Rattle.code.proofs.Tests.{le-or-lt, clash}
use Rattle.code.proofs.Wits.{Bytes}
use Rattle.code.proofs.Records.{head_of, record-length, behind, step-inside, step-ended, record-start, record-count, step-entered, record-stands}
use Rattle.code.proofs.Walk.{numbers-ahead, step-in-given, step-forward, entered-short, walk-taken, walk-ended, walk-stopped, onward-taken}

-- a record of an old dump has no number of a layout, form 0 and one range, one of a new dump the shape of a listed layout
abbrev pub Listing : Source → Entry → Type 0
Listing own_layouts e = (e.layout ≡ 0) × (e.shape ≡ shaped e.shape.m e.shape.t (get_or e.shape.v 0 0))
Listing (listed_layouts ls) e = (e.layout < length ls) × (e.shape ≡ listed_shape (get_or ls e.layout unlisted))

-- what a dump can hold: the numbers before n are small enough, and the layout is one that the dump can say
pub record Sound (source : Source) (e : Entry) : Type 0 where
  pub small : Below (2 ^ 63) (entry_head source e)
  pub listing : Listing source e

abbrev pub AllSound : Source → List Entry → Type 0
AllSound source [] = Unit {0}
AllSound source (e ∷ es) = Sound source e × AllSound source es

-- the record of an entry whose cells start at a place, and the entry of a record
abbrev pub record_for : Entry → ℕ → Record
record_for e start = record { serial = e.serial; layout = e.layout; shape = e.shape; start = start; count = length e.cells }

abbrev pub entry_of : Record → List ℕ → Entry
entry_of r cells = record { serial = r.serial; layout = r.layout; shape = r.shape; cells = cells }

-- the numbers of an entry, n the last
abbrev pub numbers_of : Source → Entry → List ℕ
numbers_of source e = head_of (entry_head source e) e.cells

head-length : (source : Source) (e : Entry) → length (entry_head source e) ≡ head_length source
unfolding entry_head
head-length own_layouts e = refl
head-length (listed_layouts ls) e = refl

in_list : (source : Source) (e : Entry) → Sound source e → out_of_list source (numbers_of source e) ≡ false
unfolding entry_head out_of_list
in_list own_layouts e s = refl
in_list (listed_layouts ls) e s = lt-leb (length ls) e.layout s.listing.0

record-for : (source : Source) (e : Entry) (start : ℕ) → Sound source e → record_by source (numbers_of source e) start ≡ record_for e start
unfolding entry_head record_by
record-for own_layouts e start s =
    sym (λ i. record {
      serial = e.serial;
      layout = s.listing.0 i;
      shape = s.listing.1 i;
      start = start;
      count = length e.cells;
    })
record-for (listed_layouts ls) e start s =
    sym (λ i. record { serial = e.serial; layout = e.layout; shape = s.listing.1 i; start = start; count = length e.cells })

-- Written records walk back: one step for each of them in order, then the end.
unfoldable pub steps_of : Source → ℕ → List Entry → List Step
steps_of source at [] = ended ∷ []
steps_of source at (e ∷ es) =
    let start = at + length (numerals_of (numbers_of source e)) in
    taken (record_for e start) ∷ steps_of source (start + length e.cells) es

steps-whole : (source : Source) (es : List Entry) (at : ℕ) → stop_of (steps_of source at es) ≡ []
unfolding stop_of steps_of
steps-whole source [] at = refl
steps-whole source (e ∷ es) at = steps-whole source es (at + length (numerals_of (numbers_of source e)) + length e.cells)

module _ (kind : Kind) (bytes : List ℕ) (source : Source) (first : ℕ) (o : opening kind bytes ≡ entered source first) where
  pub walk-entered : walk kind bytes ≡ onward kind bytes first
  unfolding walk start_of
  walk-entered = rw o

  -- a written record stands at a place: the step there gives it, and its cells are a part of the dump
  pub record Standing (at : ℕ) (x : Entry) : Type 0 where
    pub stepped : step kind bytes at ≡ taken (record_for x (at + length (numerals_of (numbers_of source x))))
    pub part : cells_of bytes (record_for x (at + length (numerals_of (numbers_of source x)))) ≡ x.cells
    pub ends : at + length (numerals_of (numbers_of source x)) + length x.cells ≡ at + length (record_of (entry_head source x) x.cells)

  pub entry-stands : (x : Entry) (at : ℕ) (rest : List ℕ) → Sound source x → drop at bytes ≡ record_of (entry_head source x) x.cells ++ rest → Standing at x
  unfolding cells_of
  entry-stands x at rest s e =
      let start : ℕ = at + length (numerals_of (numbers_of source x)) in
      let short = entered-short kind bytes source first o in
      let k = record-stands source bytes at (entry_head source x) x.cells rest (head-length source x) (in_list source x s) s.small short e in
      record {
        stepped = step-entered kind bytes at source first o ∙ k.stepped ∙ ap taken (record-for source x start s);
        part = k.part;
        ends = omega (arith, record-length (entry_head source x) x.cells);
      }

  -- what the steps from a place on are, and the entries of their records
  record Walked (at : ℕ) (es : List Entry) : Type 0 where
    steps : onward kind bytes at ≡ steps_of source at es
    same : entries_of bytes (steps_of source at es) ≡ es

  walked : (es : List Entry) (at : ℕ) → AllSound source es → drop at bytes ≡ records_of source es → Walked at es
  unfolding steps_of records_of entries_of
  walked [] at s e =
      let end : length bytes ≤ at = omega (arith, ap length e, length-drop at bytes) in
      record { steps = walk-ended kind bytes (length bytes - at) at (step-entered kind bytes at source first o ∙ step-ended source bytes at end); same = refl }
  walked (x ∷ es) at s e =
      let start : ℕ = at + length (numerals_of (numbers_of source x)) in
      let k = entry-stands x at (records_of source es) s.0 e in
      let behind-it = behind bytes at (record_of (entry_head source x) x.cells) (records_of source es) e in
      let w = walked es (start + length x.cells) s.1 (rw k.ends behind-it) in
      record {
        steps = onward-taken kind bytes at (record_for x start) k.stepped ∙ ap (λ (l : List Step). taken (record_for x start) ∷ l) w.steps;
        same = rw (k.part, w.same);
      }

  module _ (es : List Entry) (s : AllSound source es) (e : drop first bytes ≡ records_of source es) where
    pub walk-records : walk kind bytes ≡ steps_of source first es
    walk-records = walk-entered ∙ (walked es first s e).steps

    -- printed and parsed, records are the same
    pub records-whole : stop_of (walk kind bytes) ≡ []
    records-whole = ap stop_of walk-records ∙ steps-whole source es first

    pub records-parsed : entries_of bytes (walk kind bytes) ≡ es
    records-parsed = ap (entries_of bytes) walk-records ∙ (walked es first s e).same

-- Numbers that read are those of the entry that they make.
abbrev part : ℕ → ℕ → List ℕ → List ℕ
part zero i xs = []
part (suc k) i xs = get_or xs i 0 ∷ part k (suc i) xs

part-all : (k i : ℕ) (xs : List ℕ) → length xs ≡ i + k → drop i xs ≡ part k i xs
part-all zero i xs e = drop_of_length-le xs {i = i} (omega arith)
part-all (suc k) i xs e = drop-cons xs i 0 (omega arith) ∙ ap (λ (l : List ℕ). get_or xs i 0 ∷ l) (part-all k (suc i) xs (omega arith))

all-numbers : (source : Source) (xs cells : List ℕ) (start : ℕ) → length xs ≡ suc (head_length source) → length cells ≡ get_or xs (head_length source) 0 →
    xs ≡ numbers_of source (entry_of (record_by source xs start) cells)
unfolding entry_head record_by
all-numbers own_layouts xs cells start many n = rw n (part-all 5 0 xs many)
all-numbers (listed_layouts ls) xs cells start many n = rw n (part-all 3 0 xs many)

below-front : (b : ℕ) (xs ys : List ℕ) → Below b (xs ++ ys) → Below b xs
below-front b [] ys h = tt
below-front b (x ∷ xs) ys h = (h.0, below-front b xs ys h.1)

made-listing : (source : Source) (xs cells : List ℕ) (start : ℕ) → out_of_list source xs ≡ false → Listing source (entry_of (record_by source xs start) cells)
unfolding record_by out_of_list
made-listing own_layouts xs cells start o = (refl, refl)
made-listing (listed_layouts ls) xs cells start o = (leb-false (length ls) (get_or xs 1 0) o, refl)

-- A record that a step gives is sound, and is what would be written.
module _ (source : Source) (bytes : List ℕ) (at : ℕ) where
  record Took (r : Record) : Type 0 where
    sound : Sound source (entry_of r (cells_of bytes r))
    back : drop at bytes ≡ record_of (entry_head source (entry_of r (cells_of bytes r))) (cells_of bytes r) ++ drop (r.start + r.count) bytes

  step-took : (r : Record) → Bytes bytes → step_in source bytes at ≡ taken r → Took r
  unfolding record_of cells_of
  step-took r b e =
      let g = step-in-given source bytes at r e in
      let xs : List ℕ = g.numbers-are in
      let start : ℕ = g.end in
      let a = numbers-ahead (suc (head_length source)) bytes at xs start g.read in
      let p : Record = record_by source xs start in
      let cells : List ℕ = take p.count (drop p.start bytes) in
      let front : List ℕ = numerals_of (numbers_of source (entry_of p cells)) in
      let s : p.start ≡ start = record-start source xs start in
      let c : p.count ≡ get_or xs (head_length source) 0 = record-count source xs start in
      let long : length cells ≡ p.count =
      length-take-le p.count (drop p.start bytes) (omega (arith, length-drop p.start bytes, a.within (omega (arith, g.inside)), g.enough)) in
      let all : xs ≡ numbers_of source (entry_of p cells) = all-numbers source xs cells start a.many (long ∙ c) in
      let rest : drop start bytes ≡ cells ++ drop (p.start + p.count) bytes =
      ap (λ i. drop i bytes) (sym s) ∙ sym (take-append-drop p.count (drop p.start bytes)) ∙ rw (drop-drop p.count p.start bytes) in
      subst Took g.same record {
        sound = record {
          small = below-front (2 ^ 63) (entry_head source (entry_of p cells)) (length cells ∷ []) (subst (Below (2 ^ 63)) all (a.small b));
          listing = made-listing source xs cells start g.listed;
        };
        back = a.back b ∙ ap (λ l. numerals_of l ++ drop start bytes) all ∙ ap (λ l. front ++ l) rest
            ∙ sym (append_assoc front cells (drop (p.start + p.count) bytes));
      }

  record-never : (ns : Numbers) → record_at source bytes at ns ≡ ended → ⊥
  unfolding broken found
  record-never cut e = clash (cc)
  record-never (numbers xs start) e = go (broken source bytes (numbers xs start)) e
    where
      go : (b : Bool) → cond b (stopped 7 (at ∷ [])) (taken (record_by source xs start)) ≡ ended → ⊥
      go true e = clash (cc)
      go false e = clash (cc)

  step-last : step_in source bytes at ≡ ended → length bytes ≤ at
  step-last e = elim (le-or-lt (length bytes) at) [
    | inl g ↦ g
    | inr g ↦ absurd (record-never (read_numbers (suc (head_length source)) bytes at) (sym (step-inside source bytes at g) ∙ e))
  ]

-- A walk that meets the end gives sound records, and the bytes from its start on are these.
pub record Printed (source : Source) (bytes : List ℕ) (at : ℕ) (es : List Entry) : Type 0 where
  pub sound : AllSound source es
  pub back : records_of source es ≡ drop at bytes

module _ (kind : Kind) (bytes : List ℕ) (source : Source) (first : ℕ) (o : opening kind bytes ≡ entered source first) (b : Bytes bytes) where
  in_source : (at : ℕ) (s : Step) → step kind bytes at ≡ s → step_in source bytes at ≡ s
  in_source at s q = sym (step-entered kind bytes at source first o) ∙ q

  print-from : (fuel at : ℕ) → length bytes - at < fuel → stop_of (walk_from fuel kind bytes at) ≡ [] →
      Printed source bytes at (entries_of bytes (walk_from fuel kind bytes at))
  unfolding records_of stop_of entries_of
  print-from zero at l e = absurd (omega arith)
  print-from (suc fuel) at l e = go (step kind bytes at) refl (print-from fuel)
    where
      go : (s : Step) → step kind bytes at ≡ s →
          ((next : ℕ) → length bytes - next < fuel → stop_of (walk_from fuel kind bytes next) ≡ [] →
          Printed source bytes next (entries_of bytes (walk_from fuel kind bytes next))) →
          Printed source bytes at (entries_of bytes (walk_from (suc fuel) kind bytes at))
      go (taken r) q ih =
          let w = walk-taken kind bytes fuel at r q in
          let f = step-forward kind bytes at r q in
          let k = step-took source bytes at r b (in_source at (taken r) q) in
          let p = ih (r.start + r.count) (omega (arith, f.1, f.2)) (rw w at e) in
          rw w record { sound = (k.sound, p.sound); back = rw p.back (sym k.back) }
      go ended q ih =
          rw (walk-ended kind bytes fuel at q) record { sound = tt; back = sym (drop_of_length-le bytes (step-last source bytes at (in_source at ended q))) }
      go (stopped k carried) q ih = let e' = rw (walk-stopped kind bytes fuel at k carried q) at e in clash (cc)

  -- parsed and printed, a dump is the same
  pub records-printed : stop_of (walk kind bytes) ≡ [] → Printed source bytes first (entries_of bytes (walk kind bytes))
  records-printed e =
      let w = walk-entered kind bytes source first o in
      rw w (print-from (suc (length bytes - first)) first (omega arith) (rw w at e))
