-- What the walk into rows knows: begun, a record more, stopped, and a dump that is refused as a whole.
use Prim.Native.Nat.{ℕ, ◌+◌, ◌≤◌, ◌<◌, zero, suc, ◌*◌, ◌-◌, ◌/◌}
use mathlib.Core.Path.{◌≡◌, ap, refl, sym, ◌∙◌}
use mathlib.Core.List.{List, [], ◌∷◌, ◌++◌, append_assoc, append-nil}
use native.Mathlib.Omega.{arith}
use native.Mathlib.Nat.{sub-zero}
use native.Mathlib.Numerals.{add-one}
use lib.ListN.{length, get_or}
use Rattle.code.specs.declared.Kind.{Kind}
use Rattle.code.specs.declared.Kind.TheVariants.{Old, New}
use Rattle.code.specs.Calls.{read_fields}
use Rattle.code.specs.Dump as Code
use Rattle.code.specs.Dump.{barred, opening, step_reply, record_numbers, walk_from, row_numbers, row_length, row_steps}
use Rattle.code.specs.Dump.{rows_of, closing, walk_on, walk_reply, walk_leaves}
use Rattle.code.proofs.LayoutCall.{read-fields-length}
use Rattle.code.proofs.Records.{step-barred}
use Rattle.code.proofs.Walk.{walk-taken, walk-ended, walk-stopped}
use Rattle.reading.specs.Answers.{reading_of}
use Rattle.storing.specs.Put.{Put}
use Rattle.storing.proofs.Put.{put-none, put_then, put-length, put-pastes}
use Rattle.dump.specs.Answers.{halt_number, halt_carries, Walkable, told_numbers, step_of}
use Rattle.dump.specs.declared.Record as Declared
use Rattle.dump.specs.declared.Halt.{Halt}
use Rattle.std.proofs.Common.{Option, None, Some, Result, Ok, Err}
use Rattle.dump.proofs.Walking.{gives-record, gives-end, gives-stop, record-ends}
use Rattle.walking.specs.Answers.{row_told, halted_by}

-- its row is that of the walk
row_told_lem : (kind : Kind) (q : Code.Record) (r : Declared.Record) → record_numbers q ≡ told_numbers r → row_numbers kind q ≡ row_told kind r
unfolding row_numbers record_numbers
row_told_lem Old q r n = ap (λ l. get_or l 0 0 ∷ get_or l 3 0 ∷ get_or l 4 0 ∷ get_or l 5 0 ∷ get_or l 6 0 ∷ get_or l 7 0 ∷ []) n
row_told_lem New q r n = n

-- no row is made of a dump that is refused as a whole
no_rows : (kind : Kind) (bytes : List ℕ) (at k : ℕ) (carried : List ℕ) → opening kind bytes ≡ barred k carried → (fuel : ℕ) →
    rows_of kind bytes (walk_from fuel kind bytes at) ≡ []
unfolding rows_of walk_from
no_rows kind bytes at k carried e zero = refl
no_rows kind bytes at k carried e (suc fuel) = rw (walk-stopped kind bytes fuel at k carried (step-barred kind bytes at k carried e))

-- the numbers of a row are as many as it has
pub row-many : (kind : Kind) (r : Declared.Record) (reading : List ℕ) → length (row_told kind r ++ read_fields reading) ≡ row_length kind
row-many Old r reading = omega (arith, read-fields-length reading)
row-many New r reading = omega (arith, read-fields-length reading)

-- a row has eleven to thirteen numbers
pub row-some : (kind : Kind) → (11 ≤ row_length kind) × (row_length kind ≤ 13)
row-some Old = (omega arith, omega arith)
row-some New = (omega arith, omega arith)

-- rows that fit, and those left
few-left : (kind : Kind) (long done : ℕ) → long - row_length kind * done < row_length kind → long / row_length kind - done ≡ 0
few-left Old long done h = omega arith
few-left New long done h = omega arith

more_left : (kind : Kind) (long done : ℕ) → row_length kind ≤ long - row_length kind * done → long / row_length kind - done ≡ suc (long / row_length kind - suc done)
more_left Old long done h = omega arith
more_left New long done h = omega arith

next_row : (kind : Kind) (done : ℕ) → row_length kind * done + row_length kind ≡ row_length kind * (done + 1)
next_row Old done = omega arith
next_row New done = omega arith

-- the rows before are walked into from place `at` on: `done` rows are filled, up to `place`, and the next step is due at `next`
pub record Walking (kind : Kind) (bytes : List ℕ) (at : ℕ) (before rows : List ℕ) (next done place : ℕ) : Type 0 where
  pub placed : place ≡ row_length kind * done
  pub room : place ≤ length before
  pub same : length rows ≡ length before
  pub filling : List ℕ
  pub stored : Put before rows 0 filling place
  pub made : rows_of kind bytes (row_steps kind bytes at before) ≡
      filling ++ rows_of kind bytes (walk_from (length before / row_length kind - done) kind bytes next)
  pub closes : closing at 0 (row_steps kind bytes at before) ≡ closing next done (walk_from (length before / row_length kind - done) kind bytes next)

-- no more rows than their numbers
pub walking-done : {kind : Kind} {bytes : List ℕ} {at : ℕ} {before rows : List ℕ} {next done place : ℕ} →
    Walking kind bytes at before rows next done place → 11 * done ≤ length before
walking-done {kind = Old} w = omega (arith, w.placed, w.room)
walking-done {kind = New} w = omega (arith, w.placed, w.room)

-- what a walk answers, and what it leaves in the rows
abbrev pub Walks : Kind → List ℕ → ℕ → List ℕ → List ℕ → List ℕ → Type 0
Walks kind bytes at before reply rows = (reply ≡ walk_reply kind bytes at before) × (rows ≡ walk_leaves kind bytes at before)

pub walking-begin : (kind : Kind) (bytes : List ℕ) (at : ℕ) (rows : List ℕ) → Walking kind bytes at rows rows at 0 0
walking-begin kind bytes at rows = record {
  placed = none kind;
  room = omega arith;
  same = refl;
  filling = [];
  stored = put-none rows 0;
  made = rw sub-zero;
  closes = rw sub-zero;
}
  where
    none : (kind : Kind) → 0 ≡ row_length kind * 0
    none Old = refl
    none New = refl

module _ {kind : Kind} {bytes : List ℕ} {at : ℕ} {before rows : List ℕ} {next done place : ℕ} (w : Walking kind bytes at before rows next done place)
    {places : List ℕ} (ready : Walkable kind bytes places) where
  abbrev rest : List Code.Step
  rest = walk_from (length before / row_length kind - done) kind bytes next

  walking-ends : {reply : List ℕ} → rows_of kind bytes rest ≡ [] → reply ≡ closing next done rest → Walks kind bytes at before reply rows
  unfolding walk_reply walk_leaves walk_on
  walking-ends none e =
      let all : rows_of kind bytes (row_steps kind bytes at before) ≡ w.filling = rw (none, append-nil) at w.made in
      let long : place ≡ length w.filling = omega (arith, w.stored.ends) in
      (rw ready.opens (e ∙ sym w.closes), rw (all, ← long) (put-pastes w.stored w.room))

  -- no room for another row
  pub walking-full : {reply : List ℕ} → length before - place < row_length kind → reply ≡ 0 ∷ 0 ∷ done ∷ next ∷ 0 ∷ [] → Walks kind bytes at before reply rows
  unfolding walk_from rows_of closing
  walking-full h e =
      let none : length before / row_length kind - done ≡ 0 = few-left kind (length before) done (rw w.placed at h) in
      walking-ends (rw none) (rw none e)

  module _ (free : row_length kind ≤ length before - place) where
    more : length before / row_length kind - done ≡ suc (length before / row_length kind - suc done)
    more = more_left kind (length before) done (rw w.placed at free)

    module _ {s : Result (Option Declared.Record) Halt} (gives : step_of s ≡ step_reply kind bytes next) where
      pub walking-next : {r : Declared.Record} {rows' : List ℕ} {place' : ℕ} → s ≡ Ok (Some r) →
          Put rows rows' place (row_told kind r ++ read_fields (reading_of r.outcome)) place' → Walking kind bytes at before rows' (r.start + r.count) (done + 1) place'
      unfolding rows_of closing
      walking-next {r} {rows'} {place'} e p =
          let told = gives-record kind bytes next gives e in
          let q : Code.Record = told.0 in
          let turn = walk-taken kind bytes (length before / row_length kind - suc done) next q told.1 in
          let row = row_told_lem kind q r told.2 in
          let last = record-ends kind bytes next gives e in
          let ends : place' ≡ place + row_length kind = p.ends ∙ ap (λ n. place + n) (row-many kind r (reading_of r.outcome)) in
          let closed : closing at 0 (row_steps kind bytes at before) ≡
          closing (q.start + q.count) (suc done) (walk_from (length before / row_length kind - suc done) kind bytes (q.start + q.count)) =
          rw (more, turn) at w.closes in
          record {
            placed = ends ∙ rw w.placed (next_row kind done);
            room = omega arith;
            same = put-length p ∙ w.same;
            filling = w.filling ++ (row_told kind r ++ read_fields (reading_of r.outcome));
            stored = put_then w.stored p;
            made = rw (add-one done, append_assoc) (rw (more, turn, told.3, row, last) at w.made);
            closes = rw (add-one done, ← last) closed;
          }

      pub walking-end : {reply : List ℕ} → s ≡ Ok None → reply ≡ 0 ∷ 0 ∷ done ∷ next ∷ 1 ∷ [] → Walks kind bytes at before reply rows
      unfolding rows_of closing
      walking-end e r =
          let turn = walk-ended kind bytes (length before / row_length kind - suc done) next (gives-end kind bytes next gives e) in
          walking-ends (rw (more, turn)) (rw (more, turn) r)

      pub walking-stop : {reply : List ℕ} {halt : Halt} → s ≡ Err halt → reply ≡ halted_by next done halt → Walks kind bytes at before reply rows
      unfolding rows_of closing
      walking-stop {halt = halt} e r =
          let told = gives-stop kind bytes next gives e in
          let turn = walk-stopped kind bytes (length before / row_length kind - suc done) next (halt_number halt) (halt_carries halt) told in
          walking-ends (rw (more, turn)) (rw (more, turn) r)

-- a dump that is refused as a whole
pub walk_refused : (kind : Kind) (bytes : List ℕ) (at : ℕ) (rows : List ℕ) {reply : List ℕ} (halt : Halt) →
    barred (halt_number halt) (halt_carries halt) ≡ opening kind bytes → reply ≡ halted_by 0 0 halt → Walks kind bytes at rows reply rows
unfolding walk_reply walk_leaves walk_on
walk_refused kind bytes at rows halt e r =
    (rw (← e) r, rw (no_rows kind bytes at (halt_number halt) (halt_carries halt) (sym e) (length rows / row_length kind)))
