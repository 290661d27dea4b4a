-- Document 02, §9 (RULES 13, 18): the answer of resume as the fields of its reply, and what the functions between them cite.
use Rattle.std.specs.Prelude.{ℕ, cond, List, ◌∷◌, eqb, Result, Ok, Err}
use Rattle.code.specs.declared.Refusal.{Refusal}
use Rattle.code.specs.declared.Refusal.TheVariants.{Readable, Spent}
use Rattle.code.specs.Refusals.{refusal_reply}
use Rattle.code.specs.Field as Field
use Rattle.code.specs.Resume.{places_from, resume_fields}
use Rattle.reporting.specs.Report.{flags_of}
use Rattle.resuming.specs.declared.Resumed.{Resumed}
use Rattle.resuming.specs.declared.ResumeFields.{ResumeFields}

-- RULES 13, 18: the fields of the answer: 0 and the values, or those of the refusal
abbrev pub resumed_of : Result Resumed Refusal → List ℕ
resumed_of (Ok r) = 0 ∷ r.generation ∷ r.turned ∷ r.count ∷ r.erased
resumed_of (Err k) = resume_fields (refusal_reply k)

abbrev pub resume_fields_of : ResumeFields → List ℕ
resume_fields_of r = r.refusal ∷ r.generation ∷ r.turned ∷ r.count ∷ r.erased

-- RULES 18: where cells that read so are written, or the refusal that is left to them
abbrev pub aim_on : ℕ → Field.Reading → Result ℕ Refusal
aim_on t Field.blank = Err Readable
aim_on t (Field.reads i x) = Err Readable
aim_on t (Field.miscounted i u) = cond (eqb i t) (Err Spent) (Ok i)
aim_on t (Field.beyond i) = cond (eqb i t) (Err Spent) (Ok i)

-- RULES 18: the groups in n words that are all ones after and not before
abbrev pub reported : ℕ → ℕ → List ℕ → List ℕ → List ℕ
reported m n before after = places_from 0 (flags_of m n before after)
