-- An exported record walks back, wherever it stands in a dump of its kind; a refused export leaves the output as it was.
use Prim.Native.Nat.{ℕ, ◌+◌}
use mathlib.Core.Path.{◌≡◌, sym, ap, ◌∙◌}
use mathlib.Core.List.{List, [], ◌∷◌, ◌++◌}
use native.Mathlib.Omega.{arith}
use lib.ListN.{length, get_or, take, drop}
use Rattle.code.specs.declared.Kind.{Kind}
use Rattle.code.specs.Calls.{answer, read_reply, refusal_in}
use Rattle.code.specs.Numerals.{numerals_of}
use Rattle.code.specs.Export.{record_of, Exporting, export_refusal, export_reply, export_leaves}
use Rattle.code.specs.Dump.{Source, entered, opening, cells_of, record_numbers, outcome, step_values, step_reply}
use Rattle.code.specs.NewDump.{Entry, entry_head}
use Rattle.code.proofs.Stores.{refused-keeps}
use Rattle.code.proofs.Parsed.{record_for, numbers_of, entry-stands}
use Rattle.code.proofs.Tidied.{read-tidied, numbers-tidied}
use Rattle.code.proofs.Exported.{export-none, stored-record, export_of, export-head, Said, as_said, head-said, accepted-bounded, accepted-sound}
use Rattle.storing.specs.Answers.{made_of}
use Rattle.std.proofs.Common.{Ok, Err}
use Rattle.code.specs.declared.Refusal.{Refusal}
use Rattle.code.proofs.Refused.{refused-some}

-- A refused export leaves the output as it was.
pub refused-leaves : (x : Exporting) (cells out after : List ℕ) (k : Refusal) →
    made_of (Err k) ≡ export_reply x cells out → after ≡ export_leaves x cells out → after ≡ out
unfolding export_reply export_leaves answer
refused-leaves x cells out after k refused left =
    left ∙ refused-keeps (export_refusal x cells out) (length (record_of x.head cells) ∷ []) _ out
    (λ e. let z = rw (export-none x cells out e) at refused in absurd (omega (arith, refused-some k, ap (λ r. get_or r 0 0) z)))

-- An export of a record, which stored n bytes.
module _ (source : Source) (e : Entry) (out after : List ℕ) (n : ℕ)
    (stored : made_of (Ok n) ≡ export_reply (export_of source e) e.cells out) (left : after ≡ export_leaves (export_of source e) e.cells out) where
  accepted : refusal_in (export_reply (export_of source e) e.cells out) ≡ 0
  accepted = ap (λ r. get_or r 0 0) (sym stored)

  -- they are the record
  pub front : take n after ≡ record_of (entry_head source e) e.cells
  front =
      let made : take n after ≡ record_of (export_of source e).head e.cells =
      rw (left, ap (λ r. get_or r 1 0) stored) (stored-record (export_of source e) e.cells out accepted) in
      made ∙ ap (λ head. record_of head e.cells) (export-head source e)

  -- in a dump that says its layout they give back the serial, the layout, the shape's numbers, the cells and their reading by the shape, wherever they stand
  pub exported-returns : Said source e → (kind : Kind) (dump : List ℕ) (first : ℕ) → opening kind dump ≡ entered source first → (at : ℕ) (rest : List ℕ) →
      drop at dump ≡ take n after ++ rest →
      let r = record_for e (at + length (numerals_of (numbers_of source e))) in
      (step_reply kind dump at ≡ 0 ∷ (record_numbers r ++ read_reply e.shape e.cells)) × (cells_of dump r ≡ e.cells)
  unfolding step_reply step_values outcome record_numbers cells_of
  exported-returns said kind dump first o at rest q =
      let b = accepted-bounded source e out accepted said in
      let same : entry_head source (as_said e) ≡ entry_head source e = head-said source e b in
      let s = entry-stands kind dump source first o (as_said e) at rest (accepted-sound source e out accepted said) (q ∙ rw (front, same)) in
      let stepped = rw same at s.stepped in
      let part = rw same at s.part in
      (rw (stepped, part) (cc (numbers-tidied e.shape b, read-tidied e.shape b e.cells)), part)
