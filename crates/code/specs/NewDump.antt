-- Document 02, §3, "Layouts said once" (RULES 9, 12, 13): the bytes of a new dump, the export of a layout, and moving dumps there and back.
use Rattle.std.specs.Prelude.{ℕ, suc, Bool, true, false, cond, List, [], ◌∷◌, ◌++◌, leb, ltb, eqb, length, get_or, drop}
use Rattle.code.specs.declared.Kind.TheVariants.{Old, New}
use Rattle.code.specs.declared.Shape.{Shape}
use Rattle.code.specs.Lists.{same}
use Rattle.code.specs.Shape.{outside, misfit, counts_of}
use Rattle.code.specs.Calls.{refusal, answer, leaves}
use Rattle.code.specs.Numerals.{numerals_of}
use Rattle.code.specs.LayoutList.{Listed, listed_numbers, unlisted, listed_of, layouts_of, Layouts, broken_list, layouts, layout_list}
use Rattle.code.specs.Export.{record_of}
use Rattle.code.specs.Dump.{Source, own_layouts, listed_layouts, Step, taken, ended, stopped, Opening, barred, entered, opening, cells_of, walk}

-- 01, Dumps; 02, §3; RULES 8, 9: what a record says: "serial, m, t, v" and its bytes; "serial, layout number from 0" and its bytes, with the layout's numbers
pub record Entry : Type 0 where
  pub serial : ℕ
  pub layout : ℕ
  pub shape : Shape
  pub cells : List ℕ

-- RULES 8, 9: the numbers before n
unfoldable pub entry_head : Source → Entry → List ℕ
entry_head own_layouts e = e.serial ∷ e.shape.m ∷ e.shape.t ∷ get_or e.shape.v 0 0 ∷ []
entry_head (listed_layouts ls) e = e.serial ∷ e.layout ∷ []

-- 01, Dumps; RULES 8, 9: "A dump is records up to its end": the bytes of records
unfoldable pub records_of : Source → List Entry → List ℕ
records_of source [] = []
records_of source (e ∷ es) = record_of (entry_head source e) e.cells ++ records_of source es

-- 02, §3; RULES 9: "New dump: the count of layouts .., then form, m, t, v of each; then records"
unfoldable pub new_dump_of : List Listed → List Entry → List ℕ
new_dump_of ls es = numerals_of (length ls ∷ []) ++ (layouts_of ls ++ records_of (listed_layouts ls) es)

-- docs/DECISIONS.md, 65; RULES 12: the rows for the export of a layout: 1, 2, 9
unfoldable pub layout_export_refusal : Shape → List ℕ → List ℕ
layout_export_refusal s out = refusal (
    (1 ∷ [], outside s 256) ∷
    (2 ∷ [], misfit 256 (counts_of s)) ∷
    (9 ∷ [], ltb (length out) (length (layouts_of (listed_of s ∷ [])))) ∷ [])

-- RULES 9, 13: its length is answered, and it is stored as an export's record is
unfoldable pub layout_export_reply : Shape → List ℕ → List ℕ
layout_export_reply s out = answer (layout_export_refusal s out) (length (layouts_of (listed_of s ∷ [])) ∷ [])

unfoldable pub layout_export_leaves : Shape → List ℕ → List ℕ
layout_export_leaves s out =
    let made = layouts_of (listed_of s ∷ []) in
    leaves (layout_export_refusal s out) (made ++ drop (length made) out) out

-- docs/DECISIONS.md, 96; RULES 9: the layout that has a number in the list, with all its ranges; 1 for a number that the list has not
unfoldable pub listed_as : List Listed → ℕ → List ℕ
listed_as ls number =
    let l = get_or ls number unlisted in
    answer (refusal ((1 ∷ [], leb (length ls) number) ∷ [])) (l.form ∷ l.m ∷ l.t ∷ length l.ranges ∷ l.ranges)

-- docs/DECISIONS.md, 96; RULES 9, 12: a dump that is refused as a whole is refused before; an old one lists nothing
unfoldable pub listed_behind : Opening → ℕ → List ℕ
listed_behind (barred k carried) number = k ∷ carried
listed_behind (entered own_layouts start) number = 1 ∷ []
listed_behind (entered (listed_layouts ls) start) number = listed_as ls number

unfoldable pub listed_reply : List ℕ → ℕ → List ℕ
listed_reply bytes number = listed_behind (opening New bytes) number

-- RULES 13: the numbers of its struct: the refusal, form, m, t, the count of ranges and sixteen of them
abbrev pub listed_fields : ℕ
listed_fields = 21

-- RULES 9: the records that a walk gives, with their cells
unfoldable pub entries_of : List ℕ → List Step → List Entry
entries_of bytes [] = []
entries_of bytes (taken r ∷ steps) =
    record { serial = r.serial; layout = r.layout; shape = r.shape; cells = cells_of bytes r } ∷ entries_of bytes steps
entries_of bytes (ended ∷ steps) = []
entries_of bytes (stopped k carried ∷ steps) = []

-- RULES 12: the refusal that a walk stops with and what that carries, nothing where it meets the end
unfoldable pub stop_of : List Step → List ℕ
stop_of [] = []
stop_of (taken r ∷ steps) = stop_of steps
stop_of (ended ∷ steps) = []
stop_of (stopped k carried ∷ steps) = k ∷ carried

-- RULES 9: the layouts of a list that is not broken
unfoldable pub listed_in : Layouts → List Listed
listed_in broken_list = []
listed_in (layouts ls start) = ls

-- 02, §3; RULES 9: "layout number from 0": the place of a layout in a list, the list's length where it has none; layouts are the same by their numbers
unfoldable pub place_of : List Listed → Listed → ℕ
place_of [] l = 0
place_of (k ∷ ls) l = cond (same (listed_numbers k) (listed_numbers l)) 0 (suc (place_of ls l))

-- RULES 9: a layout not yet listed goes behind
unfoldable pub joined : List Listed → Listed → List Listed
joined ls l = cond (ltb (place_of ls l) (length ls)) ls (ls ++ (l ∷ []))

-- 02, §3; RULES 9: "layouts in order of first use", behind those already listed
unfoldable pub first_use : List Listed → List Entry → List Listed
first_use ls [] = ls
first_use ls (e ∷ es) = first_use (joined ls (listed_of e.shape)) es

-- RULES 9: records with the numbers of their layouts
unfoldable pub numbered : List Listed → List Entry → List Entry
numbered ls [] = []
numbered ls (e ∷ es) =
    record { serial = e.serial; layout = place_of ls (listed_of e.shape); shape = e.shape; cells = e.cells } ∷ numbered ls es

-- 02, §3; RULES 9, 12: "12 for a listed form, used or not, that the old dump cannot hold"
unfoldable pub foreign : List Listed → Bool
foreign [] = false
foreign (l ∷ ls) = cond (eqb l.form 0) (foreign ls) true

-- 02, §3; RULES 12: "7 and 8 first", as the walk has them, "then" the others
unfoldable pub first_refusal : List ℕ → List ℕ → List ℕ
first_refusal [] later = later
first_refusal (k ∷ carried) later = k ∷ carried

-- 02, §3; RULES 12: a move's bytes, with its own test between those of the walk and "8 again where the moved dump would pass 65,536 bytes, 9 last"
unfoldable pub move_refusal : List ℕ → List ℕ × Bool → List ℕ → List ℕ → List ℕ
move_refusal stop test made out = first_refusal stop (refusal (
    test ∷
    (8 ∷ [], ltb 65536 (length made)) ∷
    (9 ∷ [], ltb (length out) (length made)) ∷ []))

-- 02, §3; RULES 9: "Move old dumps to new, with layouts in order of first use"
unfoldable pub to_new : List ℕ → List ℕ
to_new bytes =
    let es = entries_of bytes (walk Old bytes) in
    let ls = first_use [] es in
    new_dump_of ls (numbered ls es)

-- 02, §3; RULES 12: "13 for over 64 layouts"
unfoldable pub to_new_refusal : List ℕ → List ℕ → List ℕ
to_new_refusal bytes out =
    let over = ltb 64 (length (first_use [] (entries_of bytes (walk Old bytes)))) in
    move_refusal (stop_of (walk Old bytes)) (13 ∷ [], over) (to_new bytes) out

-- 02, §3; RULES 9: "and back": each record with the numbers of its layout
unfoldable pub to_old : List ℕ → List ℕ
to_old bytes = records_of own_layouts (entries_of bytes (walk New bytes))

-- 02, §3; RULES 12: "then 12 for a listed form"
unfoldable pub to_old_refusal : List ℕ → List ℕ → List ℕ
to_old_refusal bytes out = move_refusal (stop_of (walk New bytes)) (12 ∷ [], foreign (listed_in (layout_list bytes))) (to_old bytes) out

-- 01, Refusal numbers; RULES 13: as of an export, "answers its length"
unfoldable pub to_new_reply : List ℕ → List ℕ → List ℕ
to_new_reply bytes out = answer (to_new_refusal bytes out) (length (to_new bytes) ∷ [])

unfoldable pub to_old_reply : List ℕ → List ℕ → List ℕ
to_old_reply bytes out = answer (to_old_refusal bytes out) (length (to_old bytes) ∷ [])

-- 01, Refusal numbers; RULES 13: as of an export, "stores .. at the front of the output, leaves later bytes unchanged"
unfoldable pub to_new_leaves : List ℕ → List ℕ → List ℕ
to_new_leaves bytes out = leaves (to_new_refusal bytes out) (to_new bytes ++ drop (length (to_new bytes)) out) out

unfoldable pub to_old_leaves : List ℕ → List ℕ → List ℕ
to_old_leaves bytes out = leaves (to_old_refusal bytes out) (to_old bytes ++ drop (length (to_old bytes)) out) out
