-- Document 01, "Dumps", and document 02, §3, "Layouts said once" (RULES 8, 9, 12, 13): the records of both kinds of dump and the walk over them.
use Rattle.std.specs.Prelude.{ℕ, zero, suc, ◌+◌, ◌-◌, ◌/◌, Bool, true, false, cond, List, [], ◌∷◌, ◌++◌, leb, ltb, length, get_or, take, drop}
use Rattle.code.specs.declared.Kind.{Kind}
use Rattle.code.specs.declared.Kind.TheVariants.{Old, New}
use Rattle.code.specs.declared.Shape.{Shape}
use Rattle.code.specs.Shape.{shaped}
use Rattle.code.specs.Calls.{read_fields, read_reply}
use Rattle.code.specs.Numerals.{Numbers, cut, numbers, read_numbers}
use Rattle.code.specs.LayoutList.{Listed, unlisted, listed_shape, Layouts, broken_list, layouts, layout_list}

-- 01, Dumps; 02, §3; RULES 8, 9: how the records of a dump say their layouts: "serial, m, t, v", each its own, or "serial, layout number from 0" of a list
pub data Source : Type 0 where
  own_layouts : Source
  listed_layouts : List Listed → Source

-- RULES 8, 9: how many numbers stand before n
abbrev pub head_length : Source → ℕ
head_length own_layouts = 4
head_length (listed_layouts ls) = 2

-- 01, Dumps; RULES 8, 9: "The walk gives serial, m, t, v and the record's cell bytes": the cells are the `count` bytes from `start` on; the layout's number is
-- 0 in an old dump
pub record Record : Type 0 where
  pub serial : ℕ
  pub layout : ℕ
  pub shape : Shape
  pub start : ℕ
  pub count : ℕ

-- RULES 8: a record; the end; or a stop with its refusal and what that carries
pub data Step : Type 0 where
  taken : Record → Step
  ended : Step
  stopped : ℕ → List ℕ → Step

-- RULES 8, 9: the record of the numbers before its cells, which start behind them
unfoldable pub record_by : Source → List ℕ → ℕ → Record
record_by own_layouts xs start =
    record { serial = get_or xs 0 0; layout = 0; shape = shaped (get_or xs 1 0) (get_or xs 2 0) (get_or xs 3 0); start = start; count = get_or xs 4 0 }
record_by (listed_layouts ls) xs start =
    record { serial = get_or xs 0 0; layout = get_or xs 1 0; shape = listed_shape (get_or ls (get_or xs 1 0) unlisted); start = start; count = get_or xs 2 0 }

-- 02, §3; RULES 9: "a layout number out of the list counting as 7"
unfoldable pub out_of_list : Source → List ℕ → Bool
out_of_list own_layouts xs = false
out_of_list (listed_layouts ls) xs = leb (length ls) (get_or xs 1 0)

-- 01, Dumps; RULES 8, 9: "a number cut off, over nine bytes or not shortest, or fewer than n bytes after n"
unfoldable pub broken : Source → List ℕ → Numbers → Bool
broken source bytes cut = true
broken source bytes (numbers xs start) = cond (out_of_list source xs) true (ltb (length bytes - start) (get_or xs (head_length source) 0))

-- RULES 8: the record of numbers that are not broken
unfoldable pub found : Source → Numbers → Step
found source cut = ended
found source (numbers xs start) = taken (record_by source xs start)

-- 01, Refusal numbers; RULES 8: before the end of a dump: the record, or 7, which carries "also the offset of the record's first byte"
abbrev pub record_at : Source → List ℕ → ℕ → Numbers → Step
record_at source bytes at ns = cond (broken source bytes ns) (stopped 7 (at ∷ [])) (found source ns)

-- 01, Dumps; RULES 8: "A dump is records up to its end": the step at a place
unfoldable pub step_in : Source → List ℕ → ℕ → Step
step_in source bytes at = cond (ltb at (length bytes)) (record_at source bytes at (read_numbers (suc (head_length source)) bytes at)) ended

-- RULES 9: a dump at its front: where its records begin and how they say their layouts, or the refusal of the whole dump and what that carries
pub data Opening : Type 0 where
  barred : ℕ → List ℕ → Opening
  entered : Source → ℕ → Opening

-- 02, §3; RULES 9: "a broken layout list, or a count above 64, as 7 at offset 0"
unfoldable pub behind_list : Layouts → Opening
behind_list broken_list = barred 7 (0 ∷ [])
behind_list (layouts ls start) = entered (listed_layouts ls) start

-- RULES 8, 9: the records of an old dump begin at once, those of a new one behind its layout list
unfoldable pub opening_as : Kind → List ℕ → Opening
opening_as Old bytes = entered own_layouts 0
opening_as New bytes = behind_list (layout_list bytes)

-- 01, Refusal numbers; RULES 12: the table's rows for the walk, 8 before 7: "A dump: 0 to 65,536 bytes"
unfoldable pub opening : Kind → List ℕ → Opening
opening kind bytes = cond (ltb 65536 (length bytes)) (barred 8 []) (opening_as kind bytes)

-- RULES 9: how many layouts a dump lists
abbrev pub listed_many : Source → ℕ
listed_many own_layouts = 0
listed_many (listed_layouts ls) = length ls

-- docs/DECISIONS.md, 66; RULES 9, 13: the reply to opening a dump: its layouts and where its records begin
unfoldable pub opened_by : Opening → List ℕ
opened_by (barred k carried) = k ∷ carried
opened_by (entered source start) = 0 ∷ listed_many source ∷ start ∷ []

unfoldable pub open_reply : Kind → List ℕ → List ℕ
open_reply kind bytes = opened_by (opening kind bytes)

-- RULES 8, 9: one step of the walk of a dump that is opened
unfoldable pub step_on : Opening → List ℕ → ℕ → Step
step_on (barred k carried) bytes at = stopped k carried
step_on (entered source start) bytes at = step_in source bytes at

-- RULES 8, 9: one step of the walk
unfoldable pub step : Kind → List ℕ → ℕ → Step
step kind bytes at = step_on (opening kind bytes) bytes at

-- 01, Dumps; RULES 8: "the record's cell bytes as a part of the dump"
unfoldable pub cells_of : List ℕ → Record → List ℕ
cells_of bytes r = take r.count (drop r.start bytes)

-- RULES 9, 13: the numbers of a shape up to its first range, which is the only one but in form 2
abbrev pub shape_numbers : Shape → List ℕ
shape_numbers s = s.form ∷ s.m ∷ s.t ∷ get_or s.v 0 0 ∷ []

-- RULES 13: the numbers of a record that the walk gives; in an old dump the layout's number and the form are 0
unfoldable pub record_numbers : Record → List ℕ
record_numbers r = r.serial ∷ r.layout ∷ (shape_numbers r.shape ++ (r.start ∷ r.count ∷ []))

-- 01, Dumps; RULES 8: "then reads them; refusals 1 to 4 belong to that record and the walk goes on"
unfoldable pub outcome : List ℕ → Record → List ℕ
outcome bytes r = read_reply r.shape (cells_of bytes r)

-- RULES 13: the walk's step at a place, as a reply
unfoldable pub step_values : List ℕ → Step → List ℕ
step_values bytes (taken r) = 0 ∷ (record_numbers r ++ outcome bytes r)
step_values bytes ended = 0 ∷ []
step_values bytes (stopped k carried) = k ∷ carried

-- RULES 13: the same of a place of the dump
unfoldable pub step_reply : Kind → List ℕ → ℕ → List ℕ
step_reply kind bytes at = step_values bytes (step kind bytes at)

-- 01, Dumps; RULES 8: all steps from a place on: "the walk goes on", "Refusal 7 ends it"
unfoldable pub walk_from : ℕ → Kind → List ℕ → ℕ → List Step
walk_from zero kind bytes at = []
walk_from (suc fuel) kind bytes at = elim (step kind bytes at) [
  | taken r ↦ taken r ∷ walk_from fuel kind bytes (r.start + r.count)
  | ended ↦ ended ∷ []
  | stopped k carried ↦ stopped k carried ∷ []
]

-- 01, Dumps; RULES 8: "up to its end": the steps from a place on; a record takes a byte at least, so that the fuel is enough
abbrev pub onward : Kind → List ℕ → ℕ → List Step
onward kind bytes at = walk_from (suc (length bytes - at)) kind bytes at

-- RULES 8, 9: where the records of a dump begin, and a refusal of the whole dump is met
unfoldable pub start_of : Opening → ℕ
start_of (barred k carried) = 0
start_of (entered source start) = start

-- 01, Dumps; 02, §3; RULES 8, 9: "A dump is records up to its end"; "a second call walks it as before": all steps
unfoldable pub walk : Kind → List ℕ → List Step
walk kind bytes = onward kind bytes (start_of (opening kind bytes))

-- docs/DECISIONS.md, 35; RULES 13: what a row of a walk has before the reply to reading: of an old dump serial, m, t, v, the start and count of the cells, of a
-- new one the layout's number and the form too
unfoldable pub row_numbers : Kind → Record → List ℕ
row_numbers Old r = r.serial ∷ r.shape.m ∷ r.shape.t ∷ get_or r.shape.v 0 0 ∷ r.start ∷ r.count ∷ []
row_numbers New r = record_numbers r

-- RULES 13: the numbers of a row
abbrev pub row_length : Kind → ℕ
row_length Old = 11
row_length New = 13

-- docs/DECISIONS.md, 35; RULES 13: the walk into lent rows, each with the reply to reading in its five fields
unfoldable pub rows_of : Kind → List ℕ → List Step → List ℕ
rows_of kind bytes [] = []
rows_of kind bytes (taken r ∷ steps) = (row_numbers kind r ++ read_fields (outcome bytes r)) ++ rows_of kind bytes steps
rows_of kind bytes (ended ∷ steps) = []
rows_of kind bytes (stopped k carried ∷ steps) = []

-- docs/DECISIONS.md, 35; RULES 13: after so many rows the refusal and its offset, the rows filled, where the next step would start, and 1 where the end was
-- reached
unfoldable pub closing : ℕ → ℕ → List Step → List ℕ
closing at rows [] = 0 ∷ 0 ∷ rows ∷ at ∷ 0 ∷ []
closing at rows (taken r ∷ steps) = closing (r.start + r.count) (suc rows) steps
closing at rows (ended ∷ steps) = 0 ∷ 0 ∷ rows ∷ at ∷ 1 ∷ []
closing at rows (stopped k carried ∷ steps) = k ∷ get_or carried 0 0 ∷ rows ∷ at ∷ 0 ∷ []

-- RULES 8: as many steps as whole rows fit
abbrev pub row_steps : Kind → List ℕ → ℕ → List ℕ → List Step
row_steps kind bytes at rows = walk_from (length rows / row_length kind) kind bytes at

-- docs/DECISIONS.md, 23; RULES 13: a dump that is refused as a whole is refused before the first
unfoldable pub walk_on : Opening → List ℕ → List ℕ
walk_on (barred k carried) reply = k ∷ get_or carried 0 0 ∷ 0 ∷ 0 ∷ 0 ∷ []
walk_on (entered source start) reply = reply

unfoldable pub walk_reply : Kind → List ℕ → ℕ → List ℕ → List ℕ
walk_reply kind bytes at rows = walk_on (opening kind bytes) (closing at 0 (row_steps kind bytes at rows))

-- docs/DECISIONS.md, 23; RULES 13: the rows filled, and behind them what stood there
unfoldable pub walk_leaves : Kind → List ℕ → ℕ → List ℕ → List ℕ
walk_leaves kind bytes at rows =
    let made = rows_of kind bytes (row_steps kind bytes at rows) in
    made ++ drop (length made) rows

-- RULES 13: of a step's reply: where the record's cells start, and how many bytes they are
abbrev pub start_in : List ℕ → ℕ
start_in reply = get_or reply 7 0

abbrev pub count_in : List ℕ → ℕ
count_in reply = get_or reply 8 0
