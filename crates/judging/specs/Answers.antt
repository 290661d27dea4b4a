-- Document 02, §8 (RULES 13, 15): the answers of judge as replies, and what the functions between them cite.
use Rattle.std.specs.Prelude.{ℕ, suc, ◌-◌, ◌^◌, Bool, cond, ◌&&◌, List, [], ◌∷◌, eqb, Option, Some, None, Result, Ok, Err}
use Rattle.code.specs.declared.Shape.{Shape}
use Rattle.code.specs.Shape.{order_of, width_of, code_of}
use Rattle.code.specs.Cells.{opened, sound}
use Rattle.code.specs.Field as Field
use Rattle.code.specs.Calls.{field_read}
use Rattle.code.specs.Judge.{wiped}
use Rattle.code.specs.JudgeCall.{RightGroups}
use Rattle.code.specs.declared.Refusal.{Refusal}
use Rattle.code.specs.Refusals.{reply_of}
use Rattle.reading.specs.declared.Unreadable.{Unreadable}
use Rattle.reading.specs.declared.Unreadable.TheVariants.{Miscounted, Beyond}
use Rattle.judging.specs.declared.JudgeFields.{JudgeFields}

-- RULES 13: a verdict as numbers: 1 and the number for yes, 0 and 0 for no
abbrev pub verdict_values : Option ℕ → List ℕ
verdict_values (Some x) = 1 ∷ x ∷ []
verdict_values None = 0 ∷ 0 ∷ []

-- RULES 13: the answer as a reply: 0 and the verdict, or the refusal
abbrev pub judged_of : Result (Option ℕ) Refusal → List ℕ
judged_of r = reply_of verdict_values r

-- 02, §8; RULES 15: what an answer says: yes "exactly when some choice of spare groups makes the after cells a right write of that number on the before cells"
abbrev pub Says : Shape → List ℕ → List ℕ → Result (Option ℕ) Refusal → Type 0
Says s before bytes (Ok (Some x)) = RightGroups (code_of s) before x bytes
Says s before bytes (Ok None) = (x : ℕ) → RightGroups (code_of s) before x bytes → ⊥
Says s before bytes (Err k) = Unit {0}

abbrev pub judge_fields_of : JudgeFields → List ℕ
judge_fields_of r = r.refusal ∷ r.yes ∷ r.number ∷ r.generation ∷ r.unerased ∷ []

-- RULES 15: the place that is due after a reading, or the refusal that is left to it
abbrev pub due_of : Field.Reading → Result ℕ Unreadable
due_of Field.blank = Ok 0
due_of (Field.reads i x) = Ok i
due_of (Field.miscounted i u) = Err (Miscounted i u)
due_of (Field.beyond i) = Err (Beyond i)

-- RULES 15: what is answered for the reading after a write that was due at a place
abbrev pub verdict_on : ℕ → ℕ → Bool → Field.Reading → List ℕ
verdict_on form n wiped Field.blank = cond (eqb form 0) (cond (eqb n 0) (0 ∷ 1 ∷ 0 ∷ []) (0 ∷ 0 ∷ 0 ∷ [])) (11 ∷ [])
verdict_on form n wiped (Field.reads i x) = cond (wiped && eqb i (suc n)) (0 ∷ 1 ∷ x ∷ []) (0 ∷ 0 ∷ 0 ∷ [])
verdict_on form n wiped (Field.miscounted i u) = 15 ∷ i ∷ u ∷ []
verdict_on form n wiped (Field.beyond i) = 16 ∷ i ∷ []

-- RULES 15: what is answered for the cells after a write that was due at a place, on these groups
abbrev pub after_told : Shape → ℕ → List ℕ → List ℕ → List ℕ
after_told s n before bytes =
    let gs = opened (order_of s) s.m (width_of s) bytes in
    cond (sound (order_of s) s.m (width_of s) bytes) (verdict_on s.form n (wiped (2 ^ s.m - 1) n before gs) (field_read s bytes)) (3 ∷ [])
