-- What a pass over the records of a dump knows: begun, a record more, at the end, stopped.
use Prim.Native.Nat.{ℕ, ◌+◌, ◌-◌, ◌≤◌}
use mathlib.Core.Path.{◌≡◌, refl, sym, ap, ◌∙◌}
use mathlib.Core.List.{List, [], ◌∷◌, ◌++◌, append_assoc, append-nil}
use native.Mathlib.Omega.{arith}
use lib.ListN.{length, take, drop, length-drop}
use lib.Seq.{length-take-le}
use Rattle.code.specs.declared.Kind.{Kind}
use Rattle.code.specs.declared.Kind.TheVariants.{Old}
use Rattle.code.specs.LayoutList.{Listed, listed_of}
use Rattle.code.specs.Dump.{Record, Source, taken, ended, stopped, barred, opening_as, opening, step, cells_of, onward, start_of, walk}
use Rattle.code.specs.Export.{record_of}
use Rattle.code.specs.NewDump.{Entry, entry_head, records_of, entries_of, stop_of, place_of, numbered}
use Rattle.code.proofs.Records.{open-short, step-barred}
use Rattle.code.proofs.Walk.{entered-short, step-forward, walk-ended, walk-stopped, onward-taken}
use Rattle.code.proofs.Parsed.{entry_of, walk-entered}
use Rattle.records.specs.Source.{source_of}
use Rattle.dump.specs.Answers.{halt_number, halt_carries, halt_of, opened_of, Opens}
use Rattle.dump.specs.declared.Opened.{Opened}
use Rattle.std.proofs.Common.{Result, Ok, Err}
use Rattle.dump.proofs.Walking.{opened-barred}
use Rattle.dump.specs.declared.Halt.{Halt}
use Rattle.moves.specs.Passes.{Begins, entries_in, said_by}

-- a record with the number of its layout in a list
abbrev pub renumber : List Listed → Entry → Entry
renumber ls e = record { serial = e.serial; layout = place_of ls (listed_of e.shape); shape = e.shape; cells = e.cells }

module _ (source : Source) (ls : List Listed) where
  pub said-append : (es more : List Entry) → said_by source ls (es ++ more) ≡ said_by source ls es ++ said_by source ls more
  unfolding records_of numbered
  said-append [] more = refl
  said-append (e ∷ es) more = rw (said-append es more, append_assoc)

  said-one : (e : Entry) → said_by source ls (e ∷ []) ≡ record_of (entry_head source (renumber ls e)) e.cells
  unfolding records_of numbered
  said-one e = append-nil (record_of (entry_head source (renumber ls e)) e.cells)

  pub said-next : (es : List Entry) (e : Entry) →
      said_by source ls (es ++ (e ∷ [])) ≡ said_by source ls es ++ record_of (entry_head source (renumber ls e)) e.cells
  said-next es e = said-append es (e ∷ []) ∙ rw (said-one e)

-- the records before place `at` are passed: they are `gone`
pub record Passing (kind : Kind) (bytes : List ℕ) (gone : List Entry) (at : ℕ) : Type 0 where
  pub entries : entries_in kind bytes ≡ gone ++ entries_of bytes (onward kind bytes at)
  pub stops : stop_of (walk kind bytes) ≡ stop_of (onward kind bytes at)

pub passing-begin : (kind : Kind) (bytes places : List ℕ) (start : ℕ) → Begins kind bytes places start → Passing kind bytes [] start
passing-begin kind bytes places start o =
    let w = walk-entered kind bytes (source_of kind bytes places) start o in
    record { entries = ap (entries_of bytes) w; stops = ap stop_of w }

-- a dump whose opening is told: its records begin, or the walk stops before them
module _ {kind : Kind} {bytes places : List ℕ} {x : Result Opened Halt} (o : Opens kind bytes places x) where
  pub opened-begins : (d : Opened) → x ≡ Ok d → Begins kind bytes (take d.layouts places) d.start
  opened-begins d e = sym o.opens ∙ ap (opened_of kind bytes places) e

  pub opened-stops : {halt : Halt} → x ≡ Err halt → stop_of (walk kind bytes) ≡ halt_of halt
  unfolding walk start_of stop_of
  opened-stops {halt} e =
      let b : opening kind bytes ≡ barred (halt_number halt) (halt_carries halt) = sym (opened-barred o e) in
      rw (walk-stopped kind bytes _ _ (halt_number halt) (halt_carries halt) (step-barred kind bytes _ (halt_number halt) (halt_carries halt) b))

-- those of an old dump begin at once
pub begins-old : (bytes places : List ℕ) (start : ℕ) → Begins Old bytes places start → Begins Old bytes places 0
unfolding opening_as source_of
begins-old bytes places start o = open-short Old bytes (entered-short Old bytes _ _ o)

-- the record that a step gives, with its cells
abbrev pub entry_at : List ℕ → Record → Entry
entry_at bytes r = entry_of r (cells_of bytes r)

-- a part within the dump is as long as it was asked to be
pub part-long : (bytes : List ℕ) (start count : ℕ) → start + count ≤ length bytes → length (take count (drop start bytes)) ≡ count
part-long bytes start count h = length-take-le count (drop start bytes) (omega (arith, length-drop start bytes))

pub cells_count : (kind : Kind) (bytes : List ℕ) (at : ℕ) (r : Record) → step kind bytes at ≡ taken r → length (cells_of bytes r) ≡ r.count
unfolding cells_of
cells_count kind bytes at r e = part-long bytes r.start r.count (step-forward kind bytes at r e).2

module _ {kind : Kind} {bytes : List ℕ} {gone : List Entry} {at : ℕ} (p : Passing kind bytes gone at) where
  -- the records that are left begin with the one that stands there
  pub passing-left : (r : Record) → step kind bytes at ≡ taken r →
      entries_in kind bytes ≡ gone ++ (entry_at bytes r ∷ entries_of bytes (onward kind bytes (r.start + r.count)))
  unfolding entries_of
  passing-left r e = p.entries ∙ rw (onward-taken kind bytes at r e)

  pub passing-next : (r : Record) → step kind bytes at ≡ taken r → Passing kind bytes (gone ++ (entry_at bytes r ∷ [])) (r.start + r.count)
  unfolding stop_of
  passing-next r e = record {
    entries = rw append_assoc (passing-left r e);
    stops = p.stops ∙ rw (onward-taken kind bytes at r e);
  }

  pub passing-end : step kind bytes at ≡ ended → (stop_of (walk kind bytes) ≡ []) × (entries_in kind bytes ≡ gone)
  unfolding entries_of stop_of
  passing-end e =
      let w = walk-ended kind bytes (length bytes - at) at e in
      (p.stops ∙ rw w, p.entries ∙ rw (w, append-nil))

  pub passing-stop : (halt : Halt) → step kind bytes at ≡ stopped (halt_number halt) (halt_carries halt) → stop_of (walk kind bytes) ≡ halt_of halt
  unfolding stop_of
  passing-stop halt e = p.stops ∙ rw (walk-stopped kind bytes (length bytes - at) at (halt_number halt) (halt_carries halt) e)
