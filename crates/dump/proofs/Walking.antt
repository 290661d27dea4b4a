-- A dump opened, and what the step at a place tells of the walk there.
use Prim.Native.Nat.{ℕ, ◌+◌, ◌≤◌, ◌<◌, suc, ◌^◌}
use mathlib.Core.Path.{◌≡◌, ap, refl, sym, ◌∙◌}
use mathlib.Core.List.{List, [], ◌∷◌}
use native.Mathlib.Omega.{arith}
use lib.ListN.{length, get_or, take}
use lib.Seq.{length-take-le}
use Rattle.code.specs.declared.Kind.{Kind}
use Rattle.code.specs.declared.Kind.TheVariants.{Old, New}
use Rattle.code.specs.Dump as Code
use Rattle.code.specs.Dump.{taken, ended, stopped, barred, entered, behind_list, opening_as, opening, listed_many, opened_by, open_reply, start_of}
use Rattle.code.specs.Dump.{step, outcome, step_values, step_reply, record_numbers}
use Rattle.code.specs.Numerals.{read_numbers}
use Rattle.code.specs.Refusals.{number_of}
use Rattle.code.proofs.Records.{open-oversize, open-short, step-barred, step-entered, step-ended, step-inside}
use Rattle.code.proofs.Dumps.{entered-within}
use Rattle.code.proofs.Steps.{Barring, open-barring, told-record, told-ended, told-stopped}
use Rattle.code.proofs.Walk.{entered-short, step-forward}
use Rattle.reading.specs.Answers.{reading_of}
use Rattle.code.specs.LayoutList.{layout_list}
use Rattle.records.specs.Source.{layouts_at, source_of}
use Rattle.records.proofs.Laws.{layouts-many}
use Rattle.records.specs.List.{list_of, ListRead}
use Rattle.records.specs.declared.list.LayoutList.{LayoutList}
use Rattle.std.proofs.Common.{Option, None, Some, Result, Ok, Err}
use Rattle.dump.specs.Answers.{dump_most, refusal_of, halt_number, halt_carries, opened_of, opened_reply, Opens, Walkable, told_numbers, step_of}
use Rattle.dump.specs.declared.Record as Declared
use Rattle.dump.specs.declared.Halt.{Halt}
use Rattle.dump.specs.declared.Halt.TheVariants.{Malformed, Oversize}
use Rattle.dump.specs.declared.Opened.{Opened}

halting : (halt : Halt) → 0 < halt_number halt
halting (Malformed offset) = omega arith
halting Oversize = omega arith

-- a halt's number is that of the refusal which it is
pub halt-told : (halt : Halt) → number_of (refusal_of halt) ≡ halt_number halt
halt-told (Malformed offset) = refl
halt-told Oversize = refl

-- what stands at a place fixes the reply there
pub located-reply : (kind : Kind) (bytes : List ℕ) (at : ℕ) {s : Code.Step} → s ≡ step kind bytes at → step_values bytes s ≡ step_reply kind bytes at
unfolding step_reply
located-reply kind bytes at e = ap (step_values bytes) e

-- an old dump, and a new one with the list that is read, opened
pub old-opens : (bytes places : List ℕ) → length bytes ≤ dump_most → length places ≡ 64 → Opens Old bytes places (Ok (record { start = 0; layouts = 0 }))
unfolding opening_as source_of
old-opens bytes places h long = record { opens = sym (open-short Old bytes h); few = omega arith; long = long }

module _ (bytes places : List ℕ) (h : length bytes ≤ dump_most) {list : Option LayoutList} (r : ListRead bytes (layout_list bytes) places list) where
  new-opening : opening New bytes ≡ behind_list (list_of bytes places list)
  unfolding opening_as
  new-opening = open-short New bytes h ∙ ap behind_list (sym r.reads)

  pub list-opens : (l : LayoutList) → list ≡ Some l → Opens New bytes places (Ok (record { start = l.start; layouts = l.count }))
  unfolding behind_list source_of
  list-opens l e = record { opens = sym (new-opening ∙ rw e); few = rw e at r.few; long = r.long }

  pub list-broken : list ≡ None → Opens New bytes places (Err (Malformed 0))
  unfolding behind_list
  list-broken e = record { opens = sym (new-opening ∙ rw e); few = tt; long = r.long }

pub long-barred : (kind : Kind) (bytes places : List ℕ) → dump_most < length bytes → length places ≡ 64 → Opens kind bytes places (Err Oversize)
long-barred kind bytes places h long = record { opens = sym (open-oversize kind bytes h); few = tt; long = long }

-- a dump whose opening is told
module _ {kind : Kind} {bytes places : List ℕ} {r : Result Opened Halt} (o : Opens kind bytes places r) where
  module _ (d : Opened) (e : r ≡ Ok d) where
    pub opened-ready : Walkable kind bytes (take d.layouts places)
    opened-ready = record { start = d.start; opens = sym o.opens ∙ ap (opened_of kind bytes places) e }

    pub opened-few : d.layouts ≤ length places
    opened-few = omega (arith, o.long, rw e at o.few)

    -- the records begin where the opening says, within the dump, which is short enough
    pub opened-start : (d.start ≡ start_of (opening kind bytes)) × (d.start ≤ length bytes) × (length bytes ≤ dump_most)
    unfolding start_of
    opened-start =
        let source = source_of kind bytes (take d.layouts places) in
        let q : opening kind bytes ≡ entered source d.start = sym o.opens ∙ ap (opened_of kind bytes places) e in
        (rw q, entered-within kind bytes source d.start q, entered-short kind bytes source d.start q)

  pub opened-barred : {halt : Halt} → r ≡ Err halt → barred (halt_number halt) (halt_carries halt) ≡ opening kind bytes
  opened-barred e = ap (opened_of kind bytes places) (sym e) ∙ o.opens

  pub barred-reply : {halt : Halt} → r ≡ Err halt → (at : ℕ) → halt_number halt ∷ halt_carries halt ≡ step_reply kind bytes at
  unfolding step_reply step_values
  barred-reply {halt} e at = rw (step-barred kind bytes at (halt_number halt) (halt_carries halt) (sym (opened-barred e)))

-- the reply to opening a new dump
pub new-opened : {bytes places : List ℕ} (r : Result Opened Halt) → Opens New bytes places r → opened_reply r ≡ open_reply New bytes
unfolding open_reply opened_by source_of
new-opened {bytes} {places} (Ok d) o =
    let many : length (layouts_at bytes (take d.layouts places)) ≡ d.layouts =
    layouts-many bytes (take d.layouts places) ∙ length-take-le d.layouts places (omega (arith, o.few, o.long)) in
    ap (λ n. 0 ∷ n ∷ d.start ∷ []) (sym many) ∙ ap opened_by o.opens
new-opened (Err halt) o = ap opened_by o.opens

-- so the first record of a new dump stands within it
pub first-within : (bytes : List ℕ) (d : Opened) → opened_reply (Ok d) ≡ open_reply New bytes → d.start ≤ length bytes
unfolding open_reply opened_by
first-within bytes d e = go (opening New bytes) refl (open-barring New bytes) e
  where
    go : (o : Code.Opening) → opening New bytes ≡ o → Barring o → opened_reply (Ok d) ≡ opened_by o → d.start ≤ length bytes
    go (barred k carried) q b e = let z : 0 ≡ k = cc in absurd (omega (arith, b.0))
    go (entered source first) q b e = let z : d.start ≡ first = cc in omega (arith, entered-within New bytes source first q)

-- no more layouts are listed than there are places
pub places-few : (kind : Kind) (bytes places : List ℕ) → length places < 2 ^ 64 → listed_many (source_of kind bytes places) < 2 ^ 64
unfolding source_of
places-few Old bytes places h = omega arith
places-few New bytes places h = omega (arith, layouts-many bytes places)

-- in a dump that is opened a step stands at the end or at a record
module _ {kind : Kind} {bytes places : List ℕ} (ready : Walkable kind bytes places) (at : ℕ) where
  pub ready-ended : length bytes ≤ at → step kind bytes at ≡ ended
  ready-ended h = step-entered kind bytes at _ _ ready.opens ∙ step-ended _ bytes at h

  pub ready-inside : at < length bytes → let source = source_of kind bytes places in
      step kind bytes at ≡ Code.record_at source bytes at (read_numbers (suc (Code.head_length source)) bytes at)
  ready-inside h = step-entered kind bytes at _ _ ready.opens ∙ step-inside _ bytes at h

module _ (kind : Kind) (bytes : List ℕ) (at : ℕ) {s : Result (Option Declared.Record) Halt} (gives : step_of s ≡ step_reply kind bytes at) where
  pub gives-end : s ≡ Ok None → step kind bytes at ≡ ended
  gives-end e = told-ended kind bytes at (rw e at gives)

  pub gives-stop : {halt : Halt} → s ≡ Err halt → step kind bytes at ≡ stopped (halt_number halt) (halt_carries halt)
  gives-stop {halt} e = told-stopped kind bytes at (halt_number halt) (halt_carries halt) (halting halt) (rw e at gives)

  module _ {r : Declared.Record} (e : s ≡ Ok (Some r)) where
    -- the record of the walk there, which has these numbers
    pub gives-record : (q : Code.Record) × (step kind bytes at ≡ taken q) × (record_numbers q ≡ told_numbers r) × (outcome bytes q ≡ reading_of r.outcome)
    gives-record = told-record kind bytes at (told_numbers r) (reading_of r.outcome) refl (rw e at gives)

    -- it ends where they say, further on and within the dump
    pub record-ends : gives-record.0.start + gives-record.0.count ≡ r.start + r.count
    unfolding record_numbers
    record-ends = let n = gives-record.2 in omega (arith, ap (λ l. get_or l 6 0) n, ap (λ l. get_or l 7 0) n)

    pub record-serial : gives-record.0.serial ≡ r.serial
    unfolding record_numbers
    record-serial = ap (λ l. get_or l 0 0) gives-record.2

    pub record-further : (at < r.start + r.count) × (r.start + r.count ≤ dump_most)
    record-further =
        let f = step-forward kind bytes at gives-record.0 gives-record.1 in
        (omega (arith, f.1, record-ends), omega (arith, record-ends))
