-- Document 01, "Dumps", and document 02, §3 (RULES 8, 9, 12, 13): the export of a field as a record of either kind of dump.
use Rattle.std.specs.Prelude.{ℕ, ◌-◌, ◌^◌, Bool, true, false, cond, List, [], ◌∷◌, ◌++◌, ltb, length, drop}
use Rattle.code.specs.declared.Shape.{Shape}
use Rattle.code.specs.Shape.{shaped, outside, misfit, counts_of}
use Rattle.code.specs.Calls.{refusal, answer, leaves, unsound}
use Rattle.code.specs.Numerals.{numerals_of}

-- 01, Dumps; RULES 8, 9: "as numbers, then n bytes": a record with so many numbers before n
unfoldable pub record_of : List ℕ → List ℕ → List ℕ
record_of head cells = numerals_of (head ++ (length cells ∷ [])) ++ cells

-- RULES 8, 9: what an export is given beside the cells and the output: its serial, whether its layout has a number that no list has, the field's shape, and the
-- numbers before n, its head
pub record Exporting : Type 0 where
  pub serial : ℕ
  pub off_list : Bool
  pub shape : Shape
  pub head : List ℕ

-- 01, Dumps; RULES 8: "A record is serial, m, t, v, n"
abbrev pub old_export : ℕ → ℕ → ℕ → ℕ → Exporting
old_export serial m t v = record { serial = serial; off_list = false; shape = shaped m t v; head = serial ∷ m ∷ t ∷ v ∷ [] }

-- 02, §3; RULES 9: "records of serial, layout number from 0, n", the number of one of "at most 64" layouts
abbrev pub new_export : ℕ → ℕ → Shape → Exporting
new_export serial layout s = record { serial = serial; off_list = ltb 63 layout; shape = s; head = serial ∷ layout ∷ [] }

-- 01, Refusal numbers; RULES 12: the table's rows for export, in its order: 10, 1, 2, 3, 9
unfoldable pub export_refusal : Exporting → List ℕ → List ℕ → List ℕ
export_refusal x cells out = refusal (
    (10 ∷ [], ltb (2 ^ 63 - 1) x.serial) ∷
    (1 ∷ [], cond x.off_list true (outside x.shape 256)) ∷
    (2 ∷ [], misfit 256 (counts_of x.shape)) ∷
    (3 ∷ [], unsound x.shape cells) ∷
    (9 ∷ [], ltb (length out) (length (record_of x.head cells))) ∷ [])

-- 01, Refusal numbers; RULES 13: "answers its length"
unfoldable pub export_reply : Exporting → List ℕ → List ℕ → List ℕ
export_reply x cells out = answer (export_refusal x cells out) (length (record_of x.head cells) ∷ [])

-- 01, Refusal numbers; RULES 13: "An accepted export stores the record at the front of the output, leaves later bytes unchanged"
unfoldable pub export_leaves : Exporting → List ℕ → List ℕ → List ℕ
export_leaves x cells out =
    let made = record_of x.head cells in
    leaves (export_refusal x cells out) (made ++ drop (length made) out) out
