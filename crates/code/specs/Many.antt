-- Document 02, §5 (RULES 6): up to 64 numbers, written in one call into as many fields of one layout that lie end to end.
use Rattle.std.specs.Prelude.{ℕ, ◌*◌, cond, not, List, [], ◌∷◌, ◌++◌, map, ltb, eqb, length, take, drop}
use Rattle.code.specs.declared.Shape.{Shape}
use Rattle.code.specs.Shape.{outside, misfit, counts_of, width_of}
use Rattle.code.specs.Cells.{size}
use Rattle.code.specs.Calls.{refusal, passes, leaves, filled, write_refusal, write_reply, write_leaves, generation_in, refusal_in, turned_in, unerased_in}

-- "up to 64 numbers"
abbrev pub numbers_most : ℕ
numbers_most = 64

-- "the field's bytes"
unfoldable pub field_bytes : Shape → ℕ
field_bytes s = size s.m (width_of s)

-- "writes them in order and stops at the first refusal": the replies of single writes, each of its field alone, up to and with the first refused
unfoldable pub many_replies : Shape → List ℕ → List ℕ → List (List ℕ)
many_replies s [] bytes = []
many_replies s (x ∷ xs) bytes =
    let field = take (field_bytes s) bytes in
    write_reply s x field ∷ cond (passes (write_refusal s x field)) (many_replies s xs (drop (field_bytes s) bytes)) []

-- "equals single writes done one after another": the cells that they leave; behind the refused field nothing is written
unfoldable pub many_cells : Shape → List ℕ → List ℕ → List ℕ
many_cells s [] bytes = bytes
many_cells s (x ∷ xs) bytes =
    let field = take (field_bytes s) bytes in
    let rest = drop (field_bytes s) bytes in
    write_leaves s x field ++ cond (passes (write_refusal s x field)) (many_cells s xs rest) rest

-- 02, §5; RULES 12: "14 for more than 64 numbers, then 1 and 2, then 3 for a buffer that isn't count times the field's bytes, all before any write"
unfoldable pub many_refusal : Shape → List ℕ → List ℕ → List ℕ
many_refusal s xs bytes = refusal (
    (14 ∷ [], ltb numbers_most (length xs)) ∷
    (1 ∷ [], outside s 256) ∷
    (2 ∷ [], misfit 256 (counts_of s)) ∷
    (3 ∷ [], not (eqb (length bytes) (length xs * field_bytes s))) ∷ [])

-- the replies of the fields that were written
unfoldable pub made_replies : List (List ℕ) → List (List ℕ)
made_replies [] = []
made_replies (reply ∷ replies) = cond (eqb (refusal_in reply) 0) (reply ∷ made_replies replies) []

-- the reply of the field that was refused, nothing where none was
unfoldable pub stop_reply : List (List ℕ) → List ℕ
stop_reply [] = []
stop_reply (reply ∷ replies) = cond (eqb (refusal_in reply) 0) (stop_reply replies) reply

-- RULES 13: the answer: the refusal, whether a field was refused, which one, counted from 0, how many were written, and the generation and the unerased count
-- that the refusal carries; the generations of the fields written; their turned counts. 0 stands behind these
unfoldable pub many_numbers : ℕ → List ℕ → List (List ℕ) → List (List ℕ)
many_numbers stopped refused made =
    (refusal_in refused ∷ stopped ∷ (stopped * length made) ∷ length made ∷ generation_in refused ∷ unerased_in refused ∷ []) ∷
    filled numbers_most (map (λ reply. generation_in reply) made) ∷
    filled numbers_most (map (λ reply. turned_in reply) made) ∷ []

-- 02, §5; RULES 13: "saying which field it was"
unfoldable pub many_told : List (List ℕ) → List (List ℕ)
many_told replies = many_numbers (cond (passes (stop_reply replies)) 0 1) (stop_reply replies) (made_replies replies)

-- RULES 13: the call's answer; refused before any write, it names no field
unfoldable pub many_reply : Shape → List ℕ → List ℕ → List (List ℕ)
many_reply s xs bytes =
    let refused = many_refusal s xs bytes in
    cond (passes refused) (many_told (many_replies s xs bytes)) (many_numbers 0 refused [])

-- RULES 6, 12: the cells afterwards
unfoldable pub many_leaves : Shape → List ℕ → List ℕ → List ℕ
many_leaves s xs bytes = leaves (many_refusal s xs bytes) (many_cells s xs bytes) bytes
