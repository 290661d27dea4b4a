-- Documents 01 and 02 (RULES 13): the numbers of a C struct in the order of its fields: the reply, with 0 in the fields that it lacks.
use Rattle.std.specs.Prelude.{ℕ, ◌+◌, cond, List, [], ◌∷◌, ◌++◌, ltb, eqb, length, take, drop}
use Rattle.code.specs.Calls.{filled, read_fields, refusal_in}
use Rattle.code.specs.Dump.{count_in, start_in}
use Rattle.gorvlime_c.specs.declared.MadeAnswer.{MadeAnswer}
use Rattle.gorvlime_c.specs.declared.OpenAnswer.{OpenAnswer}
use Rattle.gorvlime_c.specs.declared.MovedAnswer.{MovedAnswer}
use Rattle.gorvlime_c.specs.declared.StepAnswer.{StepAnswer}
use Rattle.gorvlime_c.specs.declared.NewStepAnswer.{NewStepAnswer}

abbrev pub made_fields : MadeAnswer → List ℕ
made_fields r = r.refusal ∷ r.length ∷ []

abbrev pub open_fields : OpenAnswer → List ℕ
open_fields r = r.refusal ∷ r.offset ∷ r.layouts ∷ r.first ∷ []

abbrev pub moved_fields : MovedAnswer → List ℕ
moved_fields r = r.refusal ∷ r.offset ∷ r.length ∷ []

-- a reply in n fields, the second of which is the offset that a refusal carries
unfoldable pub offset_fields : ℕ → List ℕ → List ℕ
offset_fields n reply = filled n (cond (eqb (refusal_in reply) 0) (0 ∷ 0 ∷ drop 1 reply) reply)

abbrev pub new_step_fields : NewStepAnswer → List ℕ
new_step_fields r =
    r.refusal ∷ r.offset ∷ r.records ∷ r.serial ∷ r.layout ∷ r.brief.form ∷ r.brief.m ∷ r.brief.t ∷ r.brief.v ∷ r.start ∷ r.length ∷ r.next
    ∷ r.refused ∷ r.generation ∷ r.number ∷ r.left ∷ r.unerased ∷ []

abbrev pub step_fields : StepAnswer → List ℕ
step_fields r =
    r.refusal ∷ r.offset ∷ r.records ∷ r.serial ∷ r.m ∷ r.t ∷ r.v ∷ r.start ∷ r.length ∷ r.next
    ∷ r.refused ∷ r.generation ∷ r.number ∷ r.left ∷ r.unerased ∷ []

-- where the cells of a step's record end, by its reply
unfoldable pub cells_end : List ℕ → ℕ
cells_end reply = start_in reply + count_in reply

-- the seventeen fields of the reply to a step of a new dump: a record's are 0, 0, 1, its serial, its layout's number, form, m, t, its first v, where its cells
-- start and how many they are, where they end, and its reading in five
unfoldable pub new_found_fields : List ℕ → List ℕ
new_found_fields reply =
    cond (ltb 2 (length reply)) (0 ∷ 0 ∷ 1 ∷ (take 8 (drop 1 reply) ++ (cells_end reply ∷ read_fields (drop 9 reply)))) (filled 17 reply)

-- of an old dump all but the layout's number and the form
unfoldable pub found_fields : List ℕ → List ℕ
found_fields reply = take 4 (new_found_fields reply) ++ drop 6 (new_found_fields reply)
