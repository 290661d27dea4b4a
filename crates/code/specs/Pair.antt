-- Document 02, §10 (RULES 12, 13, 19): two fields as one, by the single field's reading and write.
use Rattle.std.specs.Prelude.{ℕ, ◌+◌, ◌-◌, ◌%◌, Bool, cond, not, ◌&&◌, List, [], ◌∷◌, leb, eqb}
use Rattle.code.specs.declared.Shape.{Shape}
use Rattle.code.specs.declared.Pair.{Pair}
use Rattle.code.specs.Shape.{single, outside, misfit, counts_of}
use Rattle.code.specs.Field.{Reading}
use Rattle.code.specs.Calls.{refusal, answer, leaves, filled, refusal_in, generation_in, turned_in, unerased_in, field_read, unsound, numberless, miscounts, exceeds, count_told, spent, generation, holds, left, write_reply, write_leaves}

-- 02, §10; RULES 19: "They share m and form and may differ in t": the shape of each field. "Forms 0 and 1 only": another form is outside its bounds with one range
abbrev pub first_shape : Pair → Shape
first_shape p = single p.form p.m p.t1 p.v1

abbrev pub second_shape : Pair → Shape
second_shape p = single p.form p.m p.t2 p.v2

-- 02, §10; RULES 19: "18 for unequal v"
unfoldable pub unequal : Pair → Bool
unequal p = not (eqb p.v1 p.v2)

-- 02, §10; RULES 19: "hold the sum of their numbers modulo v"; "a blank second counts as 0 in every form", as blank cells hold 0
unfoldable pub pair_holds : Pair → Reading → Reading → ℕ
pair_holds p r q = (holds r + holds q) % p.v1

-- 02, §10; RULES 19: "the number that makes the sum right modulo v" beside a field that holds y
unfoldable pub completing : ℕ → ℕ → ℕ → ℕ
completing v x y = (x + (v - y)) % v

-- 02, §10; RULES 12, 19: "Refusals: those of the first field, then of the second; .. 18 .. before either", as for a read, but that a blank second gives no 11
unfoldable pub pair_read_refusal : Pair → List ℕ → List ℕ → List ℕ
pair_read_refusal p first second =
    let s = first_shape p in
    let r = field_read s first in
    let s' = second_shape p in
    let q = field_read s' second in
    refusal (
    (18 ∷ [], unequal p) ∷
    (1 ∷ [], outside s 256) ∷
    (2 ∷ [], misfit 256 (counts_of s)) ∷
    (3 ∷ [], unsound s first) ∷
    (11 ∷ [], numberless s r) ∷
    (15 ∷ generation r ∷ count_told r ∷ [], miscounts r) ∷
    (16 ∷ generation r ∷ [], exceeds r) ∷
    (1 ∷ [], outside s' 256) ∷
    (2 ∷ [], misfit 256 (counts_of s')) ∷
    (3 ∷ [], unsound s' second) ∷
    (15 ∷ generation q ∷ count_told q ∷ [], miscounts q) ∷
    (16 ∷ generation q ∷ [], exceeds q) ∷ [])

-- 02, §10; RULES 13, 19: the answer of a read: the number, and the writes left in both
unfoldable pub pair_read_reply : Pair → List ℕ → List ℕ → List ℕ
pair_read_reply p first second =
    let r = field_read (first_shape p) first in
    let q = field_read (second_shape p) second in
    answer (pair_read_refusal p first second) (pair_holds p r q ∷ (left p.t1 r + left p.t2 q) ∷ [])

-- 02, §10; RULES 12, 19: the same as for a write; "5 only when both are spent"
unfoldable pub pair_write_refusal : Pair → ℕ → List ℕ → List ℕ → List ℕ
pair_write_refusal p x first second =
    let s = first_shape p in
    let r = field_read s first in
    let s' = second_shape p in
    let q = field_read s' second in
    refusal (
    (18 ∷ [], unequal p) ∷
    (1 ∷ [], outside s 256) ∷
    (2 ∷ [], misfit 256 (counts_of s)) ∷
    (3 ∷ [], unsound s first) ∷
    (6 ∷ [], leb p.v1 x) ∷
    (15 ∷ generation r ∷ count_told r ∷ [], miscounts r) ∷
    (16 ∷ generation r ∷ [], exceeds r) ∷
    (1 ∷ [], outside s' 256) ∷
    (2 ∷ [], misfit 256 (counts_of s')) ∷
    (3 ∷ [], unsound s' second) ∷
    (15 ∷ generation q ∷ count_told q ∷ [], miscounts q) ∷
    (16 ∷ generation q ∷ [], exceeds q) ∷
    (5 ∷ [], spent p.t1 r && spent p.t2 q) ∷ [])

-- 02, §10; RULES 19: "Write the first until it is spent, then the second"
unfoldable pub first_spent : Pair → List ℕ → Bool
first_spent p first = spent p.t1 (field_read (first_shape p) first)

-- 02, §10; RULES 19: "each time with the number that makes the sum right": what the first gets, and what the second does
unfoldable pub first_due : Pair → ℕ → List ℕ → ℕ
first_due p x second = completing p.v1 x (holds (field_read (second_shape p) second))

unfoldable pub second_due : Pair → ℕ → List ℕ → ℕ
second_due p x first = completing p.v1 x (holds (field_read (first_shape p) first))

-- 02, §10; RULES 13, 19: the answer of a write: the field, 0 or 1, and the generation and the turned count of its write
unfoldable pub pair_written : ℕ → List ℕ → List ℕ
pair_written field reply = field ∷ generation_in reply ∷ turned_in reply ∷ []

unfoldable pub pair_write_reply : Pair → ℕ → List ℕ → List ℕ → List ℕ
pair_write_reply p x first second = answer (pair_write_refusal p x first second) (cond (first_spent p first)
    (pair_written 1 (write_reply (second_shape p) (second_due p x first) second))
    (pair_written 0 (write_reply (first_shape p) (first_due p x second) first)))

-- 02, §10; RULES 12, 19: the cells of each field afterwards
unfoldable pub pair_first_leaves : Pair → ℕ → List ℕ → List ℕ → List ℕ
pair_first_leaves p x first second =
    leaves (pair_write_refusal p x first second) (cond (first_spent p first) first (write_leaves (first_shape p) (first_due p x second) first)) first

unfoldable pub pair_second_leaves : Pair → ℕ → List ℕ → List ℕ → List ℕ
pair_second_leaves p x first second =
    leaves (pair_write_refusal p x first second) (cond (first_spent p first) (write_leaves (second_shape p) (second_due p x first) second) second) second

-- docs/DECISIONS.md, 90; RULES 13: the reply to a read in five fields: refusal, number, writes left, and what 15 and 16 carry: the generation and the unerased count
unfoldable pub pair_read_fields : List ℕ → List ℕ
pair_read_fields reply = cond (eqb (refusal_in reply) 0) (filled 5 reply) (refusal_in reply ∷ 0 ∷ 0 ∷ generation_in reply ∷ unerased_in reply ∷ [])

-- docs/DECISIONS.md, 90; RULES 13: the reply to a write in five: refusal, field, generation, which 15 and 16 carry too, turned, and the unerased count of a refusal
unfoldable pub pair_write_fields : List ℕ → List ℕ
pair_write_fields reply = cond (eqb (refusal_in reply) 0) (filled 5 reply) (refusal_in reply ∷ 0 ∷ generation_in reply ∷ 0 ∷ unerased_in reply ∷ [])
