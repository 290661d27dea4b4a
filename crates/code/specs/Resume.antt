-- Document 02, §9 (RULES 12, 13, 18): a number written on cells that a cut-off write left without a reading, on groups and on bytes, with its refusals.
use Rattle.std.specs.Prelude.{ℕ, zero, suc, ◌+◌, ◌-◌, ◌^◌, ◌/◌, ◌%◌, Bool, cond, not, ◌&&◌, List, [], ◌∷◌, ◌++◌, leb, ltb, eqb, length, get_or, drop}
use Rattle.code.specs.declared.Shape.{Shape}
use Rattle.code.specs.Shape.{order_of, outside, misfit, counts_of, code_of}
use Rattle.code.specs.Code.{Code, erased, width}
use Rattle.code.specs.Cells.{listed, sound, turned}
use Rattle.code.specs.Field.{zeros, has_reading, read, Writing, refused, write_at}
use Rattle.code.specs.Run.{kept}
use Rattle.code.specs.Calls.{groups_in, storing, refusal, answer, leaves, filled, field_read, unsound, over_range, over_place, made_at}

-- 02, §9; RULES 18: "the first .. whose h_i is at most the zero groups left": its place in a list of counts, which is behind the last where there is none
unfoldable pub first_within : ℕ → List ℕ → ℕ
first_within z [] = 0
first_within z (h ∷ hs) = cond (leb h z) 0 (suc (first_within z hs))

-- 02, §9; RULES 18: ".. from 2 on": its place in all counts, where generation 2 stands at place 1
unfoldable pub resume_place : Code → List ℕ → ℕ
resume_place c gs = suc (first_within (zeros gs) (drop 1 c.counts))

-- 02, §9; RULES 18: "Given such cells .. write it at" that generation, "erasing as document 01 says"
unfoldable pub resume : Code → ℕ → List ℕ → Writing
resume c x gs = cond (has_reading (read c gs)) refused (write_at c x gs (resume_place c gs))

-- 02, §9; RULES 18: of a buffer, where it is sound
unfoldable pub resume_cells : Code → ℕ → List ℕ → Writing
resume_cells c x bytes = cond (sound c.order c.m (width c) bytes) (storing c.order c.m (resume c x (groups_in c bytes))) refused

-- 02, §9; RULES 18: "the groups all ones now and not before": a 1 for each such group, 0 for any other, left to right
unfoldable pub freshly : ℕ → List ℕ → List ℕ → List ℕ
freshly e [] gs = []
freshly e (x ∷ xs) [] = []
freshly e (x ∷ xs) (y ∷ ys) = cond (eqb y e && not (eqb x e)) 1 0 ∷ freshly e xs ys

-- 02, §9; RULES 18: "The report lists" them: the places of the ones, where the first has number j; rising
unfoldable pub places_from : ℕ → List ℕ → List ℕ
places_from j [] = []
places_from j (zero ∷ fs) = places_from (suc j) fs
places_from j (suc f ∷ fs) = j ∷ places_from (suc j) fs

-- 02, §9; RULES 18: the groups of two buffers that the report lists
unfoldable pub fresh_groups : Code → List ℕ → List ℕ → List ℕ
fresh_groups c before bytes = places_from 0 (freshly (erased c) (groups_in c before) (groups_in c bytes))

-- 02, §9; RULES 18: "5 exactly when fewer than h_t zero groups are left"
unfoldable pub exhausted : Shape → List ℕ → Bool
exhausted s bytes = ltb (zeros (groups_in (code_of s) bytes)) (get_or (counts_of s) (s.t - 1) 0)

-- 02, §9; RULES 18: "in form 2, 6 .. goes by the range of the generation found"
unfoldable pub over_found : Shape → ℕ → List ℕ → Bool
over_found s x bytes = over_place s x (resume_place (code_of s) (groups_in (code_of s) bytes))

-- 02, §9; RULES 12: "Refusals, after 3: 6 as for a write; 17 where the cells do have a reading or are blank; then 5 ..; in form 2, 6 comes after 5": 1, 2, 3, 6, 17, 5, 6
unfoldable pub resume_refusal : Shape → ℕ → List ℕ → List ℕ
resume_refusal s x bytes = refusal (
    (1 ∷ [], outside s 256) ∷
    (2 ∷ [], misfit 256 (counts_of s)) ∷
    (3 ∷ [], unsound s bytes) ∷
    (6 ∷ [], over_range s x) ∷
    (17 ∷ [], has_reading (field_read s bytes)) ∷
    (5 ∷ [], exhausted s bytes) ∷
    (6 ∷ [], over_found s x bytes) ∷ [])

-- RULES 18: the resumed write on a field's cells by its layout
unfoldable pub field_resume : Shape → ℕ → List ℕ → Writing
field_resume s x bytes = resume_cells (code_of s) x bytes

-- 02, §9; RULES 13, 18: "The report lists that generation, the groups all ones now and not before and the turned count": generation, turned, how many groups, and these
unfoldable pub resume_reply : Shape → ℕ → List ℕ → List ℕ
resume_reply s x bytes =
    let w = field_resume s x bytes in
    let gs = fresh_groups (code_of s) bytes (kept bytes w) in
    answer (resume_refusal s x bytes) (made_at w ∷ turned (order_of s) bytes (kept bytes w) ∷ length gs ∷ gs)

-- 02, §9; RULES 12, 18: the cells afterwards
unfoldable pub resume_leaves : Shape → ℕ → List ℕ → List ℕ
resume_leaves s x bytes = leaves (resume_refusal s x bytes) (kept bytes (field_resume s x bytes)) bytes

-- RULES 13, 18: a bit for each group of a list: group j at bit j mod 64 of word j / 64; this is word w
unfoldable pub bits_at : ℕ → List ℕ → ℕ
bits_at w [] = 0
bits_at w (j ∷ js) = cond (eqb (j / 64) w) (2 ^ (j % 64)) 0 + bits_at w js

-- RULES 13, 18: the reply in eight fields: refusal, generation, turned, how many groups, and four words with a bit for each of them
unfoldable pub resume_fields : List ℕ → List ℕ
resume_fields reply = filled 4 reply ++ listed (λ w. bits_at w (drop 4 reply)) 0 4
