-- Document 01, "Refusal numbers, tested in this order", with document 02, §2, §6 and §7 (RULES 2, 3, 5, 6, 12, 13): the calls on lent bytes. A reply is a list
-- of numbers: 0 and the answer's values, or the refusal's number and the values that it carries.
use Rattle.std.specs.Prelude.{ℕ, ◌-◌, Bool, true, false, cond, not, ◌&&◌, List, [], ◌∷◌, ◌++◌, leb, eqb, get_or, take, replicate}
use Rattle.code.specs.declared.Shape.{Shape}
use Rattle.code.specs.Shape.{ranges_of, order_of, outside, granted, misfit, counts_of, width_of, code_of}
use Rattle.code.specs.Code.{Code, width}
use Rattle.code.specs.Cells.{opened, sound, stored, turned}
use Rattle.code.specs.Field.{Reading, blank, reads, miscounted, beyond, read, Writing, refused, wrote, write}
use Rattle.code.specs.Run.{kept}

-- 01, Cells in bytes; RULES 3: the groups of a buffer
abbrev pub groups_in : Code → List ℕ → List ℕ
groups_in c bytes = opened c.order c.m (width c) bytes

-- 01, Reading; RULES 5: of a buffer: its groups are read
unfoldable pub read_cells : Code → List ℕ → Reading
read_cells c bytes = read c (groups_in c bytes)

-- 01, Cells in bytes; RULES 3: the groups that a write leaves, as a buffer
unfoldable pub storing : ℕ → ℕ → Writing → Writing
storing order m refused = refused
storing order m (wrote i gs) = wrote i (stored order m gs)

-- 01, Writing; RULES 6: of a buffer: its groups are written, where it is sound
unfoldable pub write_cells : Code → ℕ → List ℕ → Writing
write_cells c x bytes = cond (sound c.order c.m (width c) bytes) (storing c.order c.m (write c x (groups_in c bytes))) refused

-- 01, Refusal numbers; RULES 12: "tested in this order": the first test that holds gives its number and what it carries; none does where the call is accepted
unfoldable pub refusal : List (List ℕ × Bool) → List ℕ
refusal [] = []
refusal (test ∷ tests) = cond test.1 test.0 (refusal tests)

-- RULES 13: the reply: the refusal, or 0 and the answer's values
unfoldable pub answer : List ℕ → List ℕ → List ℕ
answer [] values = 0 ∷ values
answer (k ∷ carried) values = k ∷ carried

-- RULES 13: the numbers of a reply by name: its refusal, 0 where the call is accepted
abbrev pub refusal_in : List ℕ → ℕ
refusal_in reply = get_or reply 0 0

-- RULES 13: of a reading or a write: the generation, which 15 and 16 carry too
abbrev pub generation_in : List ℕ → ℕ
generation_in reply = get_or reply 1 0

-- RULES 13: of a reading: the number and the writes left
abbrev pub number_in : List ℕ → ℕ
number_in reply = get_or reply 2 0

abbrev pub left_in : List ℕ → ℕ
left_in reply = get_or reply 3 0

-- RULES 13: of a write: the turned count
abbrev pub turned_in : List ℕ → ℕ
turned_in reply = get_or reply 2 0

-- RULES 13: of 15: the unerased count, and 0 of any other refusal
abbrev pub unerased_in : List ℕ → ℕ
unerased_in reply = get_or reply 2 0

-- RULES 13: of a call that stores: the length
abbrev pub length_in : List ℕ → ℕ
length_in reply = get_or reply 1 0

-- RULES 12: a call is accepted where no test holds
unfoldable pub passes : List ℕ → Bool
passes [] = true
passes (k ∷ carried) = false

-- 01, Refusal numbers; RULES 12: what a call leaves in lent bytes: a refusal "stores nothing in cells or output"
unfoldable pub leaves : List ℕ → List ℕ → List ℕ → List ℕ
leaves [] after before = after
leaves (k ∷ carried) after before = before

-- docs/DECISIONS.md, 4; RULES 13: a reply in n fields, 0 in those that it lacks, as a struct or a row has them
unfoldable pub filled : ℕ → List ℕ → List ℕ
filled n reply = take n (reply ++ replicate n 0)

-- docs/DECISIONS.md, 90; RULES 13: the reply to a reading in five fields: refusal, generation, number, writes left, and the unerased count of a refusal
unfoldable pub read_fields : List ℕ → List ℕ
read_fields reply = cond (eqb (refusal_in reply) 0) (filled 5 reply) (refusal_in reply ∷ generation_in reply ∷ 0 ∷ 0 ∷ unerased_in reply ∷ [])

-- docs/DECISIONS.md, 90; RULES 13: the reply to a write in four: refusal, generation, turned, and the unerased count of a refusal
unfoldable pub write_fields : List ℕ → List ℕ
write_fields reply = cond (eqb (refusal_in reply) 0) (filled 4 reply) (refusal_in reply ∷ generation_in reply ∷ 0 ∷ unerased_in reply ∷ [])

-- RULES 13: the numbers of a layout's struct: its refusal and sixteen counts, for t is at most 16
abbrev pub layout_fields : ℕ
layout_fields = 17

-- 01, Refusal numbers; RULES 12: the table's rows for layout, in its order: 1, 2
unfoldable pub layout_refusal : Shape → ℕ → List ℕ
layout_refusal s g = refusal ((1 ∷ [], outside s g) ∷ (2 ∷ [], misfit g (granted s g)) ∷ [])

-- 01, Layout; RULES 2, 13: the call's answer: "The granted list"
unfoldable pub layout_reply : Shape → ℕ → List ℕ
layout_reply s g = answer (layout_refusal s g) (granted s g)

-- RULES 5: the reading of a field's cells by its layout
unfoldable pub field_read : Shape → List ℕ → Reading
field_read s bytes = read_cells (code_of s) bytes

-- RULES 6: the write on a field's cells by its layout
unfoldable pub field_write : Shape → ℕ → List ℕ → Writing
field_write s x bytes = write_cells (code_of s) x bytes

-- 01, Refusal numbers, 3; RULES 3: "wrong byte count, or a left-over bit is 1"
unfoldable pub unsound : Shape → List ℕ → Bool
unsound s bytes = not (sound (order_of s) s.m (width_of s) bytes)

-- 02, §6; RULES 5: "wrong number of unerased groups"
unfoldable pub miscounts : Reading → Bool
miscounts blank = false
miscounts (reads i x) = false
miscounts (miscounted i u) = true
miscounts (beyond i) = false

-- 02, §6; RULES 5: "number not below the range"
unfoldable pub exceeds : Reading → Bool
exceeds blank = false
exceeds (reads i x) = false
exceeds (miscounted i u) = false
exceeds (beyond i) = true

-- 02, §6; RULES 5: "the first also tells the unerased count"
unfoldable pub count_told : Reading → ℕ
count_told blank = 0
count_told (reads i x) = 0
count_told (miscounted i u) = u
count_told (beyond i) = 0

-- 01, Refusal numbers, 5; RULES 6: "generation is already t"
unfoldable pub spent : ℕ → Reading → Bool
spent t blank = false
spent t (reads i x) = eqb i t
spent t (miscounted i u) = false
spent t (beyond i) = false

-- 02, §7; RULES 6: "the generation that would take it", by its place: the first for blank cells, the one after what is read for others
unfoldable pub taker : Reading → ℕ
taker blank = 0
taker (reads i x) = i
taker (miscounted i u) = 0
taker (beyond i) = 0

-- 01, Refusal numbers, 6; RULES 6: "number ≥ v", of the forms that have one v
unfoldable pub over_range : Shape → ℕ → Bool
over_range s x = not (eqb s.form 2) && leb (get_or s.v 0 0) x

-- 02, §7, §9; RULES 6, 18: of form 2: not below the range of the generation at a place
abbrev pub over_place : Shape → ℕ → ℕ → Bool
over_place s x n = eqb s.form 2 && leb (get_or (ranges_of s) n 0) x

-- 02, §7; RULES 6: of form 2: not "below the range of the generation that would take it"
unfoldable pub over_taker : Shape → ℕ → Reading → Bool
over_taker s x r = eqb s.form 2 && leb (get_or (ranges_of s) (taker r) 0) x

-- 01, Reading; RULES 5: the generation of a reading; "All-zero cells read as generation 1, number 0"
unfoldable pub generation : Reading → ℕ
generation blank = 1
generation (reads i x) = i
generation (miscounted i u) = i
generation (beyond i) = i

-- 01, Reading; RULES 5: the number of a reading
unfoldable pub holds : Reading → ℕ
holds blank = 0
holds (reads i x) = x
holds (miscounted i u) = 0
holds (beyond i) = 0

-- 01, Reading; RULES 5: "Writes left: t for all-zero cells, else t less the generation"
unfoldable pub left : ℕ → Reading → ℕ
left t blank = t
left t (reads i x) = t - i
left t (miscounted i u) = t - i
left t (beyond i) = t - i

-- 02, §2; RULES 5: "reading blank form 1 cells gives 11"; in form 0 they have a number
unfoldable pub numberless : Shape → Reading → Bool
numberless s blank = not (eqb s.form 0)
numberless s (reads i x) = false
numberless s (miscounted i u) = false
numberless s (beyond i) = false

-- 01, Refusal numbers; 02, §2, §6; RULES 12: the table's rows for read, in its order, with 11 "after 3" and then 15, 16: 1, 2, 3, 11, 15, 16;
-- "Both carry the generation that the zero count points to"
unfoldable pub read_refusal : Shape → List ℕ → List ℕ
read_refusal s bytes = let r = field_read s bytes in refusal (
    (1 ∷ [], outside s 256) ∷
    (2 ∷ [], misfit 256 (counts_of s)) ∷
    (3 ∷ [], unsound s bytes) ∷
    (11 ∷ [], numberless s r) ∷
    (15 ∷ generation r ∷ count_told r ∷ [], miscounts r) ∷
    (16 ∷ generation r ∷ [], exceeds r) ∷ [])

-- 01, Reading; RULES 5, 13: the call's answer: generation, number and writes left
unfoldable pub read_reply : Shape → List ℕ → List ℕ
read_reply s bytes = let r = field_read s bytes in answer (read_refusal s bytes) (generation r ∷ holds r ∷ left s.t r ∷ [])

-- 01, Refusal numbers; 02, §6, §7; RULES 12: the table's rows for write, in its order, with 15, 16: 1, 2, 3, 6, 15, 16, 5; "for this form 6 is tested after 5"
unfoldable pub write_refusal : Shape → ℕ → List ℕ → List ℕ
write_refusal s x bytes = let r = field_read s bytes in refusal (
    (1 ∷ [], outside s 256) ∷
    (2 ∷ [], misfit 256 (counts_of s)) ∷
    (3 ∷ [], unsound s bytes) ∷
    (6 ∷ [], over_range s x) ∷
    (15 ∷ generation r ∷ count_told r ∷ [], miscounts r) ∷
    (16 ∷ generation r ∷ [], exceeds r) ∷
    (5 ∷ [], spent s.t r) ∷
    (6 ∷ [], over_taker s x r) ∷ [])

-- 01, Writing; RULES 6: the generation "written at"
unfoldable pub made_at : Writing → ℕ
made_at refused = 0
made_at (wrote i bytes) = i

-- 01, Writing; RULES 6, 13: "The answer is the generation and the count of wits turned from 0 to 1"
unfoldable pub write_reply : Shape → ℕ → List ℕ → List ℕ
write_reply s x bytes =
    let w = field_write s x bytes in
    answer (write_refusal s x bytes) (made_at w ∷ turned (order_of s) bytes (kept bytes w) ∷ [])

-- Demand 1; RULES 14: the wits that a write turned, by its reply: "a refused write turns no cell"
unfoldable pub turned_by : List ℕ → ℕ
turned_by reply = cond (eqb (refusal_in reply) 0) (turned_in reply) 0

-- 01, Writing; RULES 6, 12: the cells afterwards
unfoldable pub write_leaves : Shape → ℕ → List ℕ → List ℕ
write_leaves s x bytes = leaves (write_refusal s x bytes) (kept bytes (field_write s x bytes)) bytes
