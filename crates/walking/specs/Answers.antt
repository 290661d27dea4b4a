-- Documents 01, "Dumps", and 02, §3 (RULES 13): the answers of the walk into rows as replies, and a record in a row.
use Rattle.std.specs.Prelude.{ℕ, Bool, cond, List, [], ◌∷◌, get_or, Result, Ok, Err}
use Rattle.code.specs.declared.Kind.{Kind}
use Rattle.code.specs.declared.Kind.TheVariants.{Old, New}
use Rattle.dump.specs.declared.Record.{Record}
use Rattle.dump.specs.declared.Halt.{Halt}
use Rattle.dump.specs.Answers.{halt_number, halt_carries, told_numbers}
use Rattle.walking.specs.declared.Walked.{Walked}
use Rattle.walking.specs.declared.WalkFields.{WalkFields}

-- the numbers of its row before the reading, as `row_numbers` has them
abbrev pub row_told : Kind → Record → List ℕ
row_told Old r = r.serial ∷ r.brief.m ∷ r.brief.t ∷ r.brief.v ∷ r.start ∷ r.count ∷ []
row_told New r = told_numbers r

abbrev pub walk_fields_of : WalkFields → List ℕ
walk_fields_of r = r.refusal ∷ r.offset ∷ r.rows ∷ r.next ∷ r.ended ∷ []

-- what a walk answers that stops where the next step would start, after so many rows
abbrev pub halted_by : ℕ → ℕ → Halt → List ℕ
halted_by next rows halt = halt_number halt ∷ get_or (halt_carries halt) 0 0 ∷ rows ∷ next ∷ 0 ∷ []

-- RULES 13: where a walk stopped, after so many rows: 1 at the end, 0 before it, or the refusal and its offset
abbrev pub ended_by : ℕ → ℕ → Result Bool Halt → List ℕ
ended_by next rows (Ok ended) = 0 ∷ 0 ∷ rows ∷ next ∷ cond ended 1 0 ∷ []
ended_by next rows (Err halt) = halted_by next rows halt

abbrev pub walked_of : Walked → List ℕ
walked_of w = ended_by w.next w.rows w.ended
