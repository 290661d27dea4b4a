-- Document 02, §10 (RULES 13, 19): the answers of a pair as replies, and what the functions between them cite.
use Rattle.std.specs.Prelude.{ℕ, ◌+◌, ◌%◌, ◌≡◌, Bool, false, cond, List, [], ◌∷◌, replicate, Result, Ok, Err}
use Rattle.code.specs.declared.Shape.{Shape}
use Rattle.code.specs.declared.Pair.{Pair}
use Rattle.code.specs.Shape.{order_of, width_of}
use Rattle.code.specs.Cells.{sound}
use Rattle.code.specs.Field as Field
use Rattle.code.specs.Calls.{answer, filled, layout_fields, layout_reply, field_read, holds, left}
use Rattle.code.specs.Pair.{first_shape, second_shape, pair_write_reply, pair_first_leaves, pair_second_leaves}
use Rattle.code.proofs.PairCall.{seen_refusal}
use Rattle.code.specs.declared.Refusal.{Refusal}
use Rattle.code.specs.declared.Refusal.TheVariants.{Cells, Number, Miscounted, Beyond}
use Rattle.code.specs.Refusals.{reply_of}
use Rattle.pairing.specs.declared.PairRead.{PairRead}
use Rattle.pairing.specs.declared.Side.{Side}
use Rattle.pairing.specs.declared.Side.TheVariants.{First, Second}
use Rattle.pairing.specs.declared.PairWritten.{PairWritten}
use Rattle.pairing.specs.declared.PairReadFields.{PairReadFields}
use Rattle.pairing.specs.declared.PairWriteFields.{PairWriteFields}
use Rattle.pairing.specs.declared.Seen.{Seen}

-- RULES 13, 19: a read as numbers; a field, "0 for the first and 1 for the second"; a write as numbers
abbrev pub pair_values : PairRead → List ℕ
pair_values r = r.number ∷ r.left ∷ []

abbrev pub field_of : Side → ℕ
field_of First = 0
field_of Second = 1

abbrev pub written_values : PairWritten → List ℕ
written_values w = field_of w.side ∷ w.generation ∷ w.turned ∷ []

-- RULES 13: the answers as replies
abbrev pub pair_reading_of : Result PairRead Refusal → List ℕ
pair_reading_of r = reply_of pair_values r

abbrev pub pair_writing_of : Result PairWritten Refusal → List ℕ
pair_writing_of r = reply_of written_values r

abbrev pub pair_read_fields_of : PairReadFields → List ℕ
pair_read_fields_of r = r.refusal ∷ r.number ∷ r.left ∷ r.generation ∷ r.unerased ∷ []

abbrev pub pair_write_fields_of : PairWriteFields → List ℕ
pair_write_fields_of r = r.refusal ∷ r.field ∷ r.generation ∷ r.turned ∷ r.unerased ∷ []

-- RULES 19: what a field of a pair tells by its reading, "a blank second counts as 0"
abbrev pub sight_on : Field.Reading → Result Seen Refusal
sight_on Field.blank = Ok (record { used = 0; number = 0 })
sight_on (Field.reads i x) = Ok (record { used = i; number = x })
sight_on (Field.miscounted i u) = Err (Miscounted i u)
sight_on (Field.beyond i) = Err (Beyond i)

-- RULES 19: the same of its cells, 3 and 6 being tested first
abbrev pub sighted : Shape → Bool → List ℕ → Result Seen Refusal
sighted s over bytes = cond (sound (order_of s) s.m (width_of s) bytes) (cond over (Err Number) (sight_on (field_read s bytes))) (Err Cells)

-- RULES 19: the ranges of both fields are equal and stand in v, and h has the counts of the first
pub record Laid (p : Pair) (v h : List ℕ) : Type 0 where
  pub same : p.v1 ≡ p.v2
  pub ranges : v ≡ p.v1 ∷ replicate 15 0
  pub counts : 0 ∷ h ≡ filled layout_fields (layout_reply (first_shape p) 256)

-- RULES 19: what is answered for the second field of a read once the first has a number and writes left
abbrev pub second_told : Pair → ℕ → ℕ → List ℕ → List ℕ
second_told p number rest second =
    let q = field_read (second_shape p) second in
    answer (seen_refusal (second_shape p) false second) ((number + holds q) % p.v1 ∷ (rest + left p.t2 q) ∷ [])

-- RULES 19: a reply to a write and the cells of both fields at exit, as the promise has them
abbrev pub PairAnswers : Pair → ℕ → List ℕ → List ℕ → List ℕ → List ℕ → List ℕ → Type 0
PairAnswers p x first second reply first' second' =
    (reply ≡ pair_write_reply p x first second) × ((first' ≡ pair_first_leaves p x first second) × (second' ≡ pair_second_leaves p x first second))
