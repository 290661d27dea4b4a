-- Documents 01, "Dumps", and 02, §3 (RULES 13): the answers of the dump calls as replies: 0 and the values, or the refusal's number and what it carries.
use Rattle.std.specs.Prelude.{ℕ, ◌≤◌, ◌≡◌, List, [], ◌∷◌, ◌++◌, length, take, Option, None, Some, Result, Ok, Err}
use Rattle.code.specs.declared.Kind.{Kind}
use Rattle.code.specs.Dump as Code
use Rattle.code.specs.declared.Refusal.{Refusal}
use Rattle.code.specs.declared.Refusal.TheVariants.{Malformed as MalformedRefusal, TooLong}
use Rattle.records.specs.declared.Head.{Head}
use Rattle.reading.specs.Answers.{reading_of}
use Rattle.records.specs.Source.{source_of}
use Rattle.records.specs.Head.{head_record}
use Rattle.dump.specs.declared.Halt.{Halt}
use Rattle.dump.specs.declared.Halt.TheVariants.{Malformed, Oversize}
use Rattle.dump.specs.declared.Opened.{Opened}
use Rattle.dump.specs.declared.Record as Declared

-- 01, Numbers that bound everything; RULES 12: "A dump: 0 to 65,536 bytes"
abbrev pub dump_most : ℕ
dump_most = 65536

-- 01, Refusal numbers; RULES 12: "A refusal carries its number only (7 also the offset of the record's first byte)"
abbrev pub halt_number : Halt → ℕ
halt_number (Malformed offset) = 7
halt_number Oversize = 8

abbrev pub halt_carries : Halt → List ℕ
halt_carries (Malformed offset) = offset ∷ []
halt_carries Oversize = []

-- 01, Refusal numbers; RULES 12: the refusal that it is
abbrev pub refusal_of : Halt → Refusal
refusal_of (Malformed offset) = MalformedRefusal offset
refusal_of Oversize = TooLong

abbrev pub halt_of : Halt → List ℕ
halt_of halt = halt_number halt ∷ halt_carries halt

-- RULES 9: a dump at its front: the layouts that are kept are the first of the places
abbrev pub opened_of : Kind → List ℕ → List ℕ → Result Opened Halt → Code.Opening
opened_of kind bytes places (Ok o) = Code.entered (source_of kind bytes (take o.layouts places)) o.start
opened_of kind bytes places (Err halt) = Code.barred (halt_number halt) (halt_carries halt)

-- RULES 9: at most so many layouts are kept
abbrev pub Few : ℕ → Result Opened Halt → Type 0
Few most (Ok o) = o.layouts ≤ most
Few most (Err halt) = Unit {0}

pub record Opens (kind : Kind) (bytes places : List ℕ) (r : Result Opened Halt) : Type 0 where
  pub opens : opened_of kind bytes places r ≡ Code.opening kind bytes
  pub few : Few 64 r
  pub long : length places ≡ 64

-- RULES 8, 9: the records of a dump can be walked, its layouts being kept by their places
pub record Walkable (kind : Kind) (bytes places : List ℕ) : Type 0 where
  pub start : ℕ
  pub opens : Code.opening kind bytes ≡ Code.entered (source_of kind bytes places) start

-- a dump at its front, as a reply: the layouts that it lists and where its records begin
abbrev pub opened_reply : Result Opened Halt → List ℕ
opened_reply (Ok o) = 0 ∷ o.layouts ∷ o.start ∷ []
opened_reply (Err halt) = halt_of halt

-- RULES 8, 9: what stands at a place, as a step of the walk
abbrev pub located_of : Code.Source → Result (Option Head) Halt → Code.Step
located_of source (Ok (Some h)) = Code.taken (head_record source h)
located_of source (Ok None) = Code.ended
located_of source (Err halt) = Code.stopped (halt_number halt) (halt_carries halt)

-- the numbers of a record, as `record_numbers` has them
abbrev pub told_numbers : Declared.Record → List ℕ
told_numbers r = r.serial ∷ r.layout ∷ r.brief.form ∷ r.brief.m ∷ r.brief.t ∷ r.brief.v ∷ r.start ∷ r.count ∷ []

abbrev pub step_of : Result (Option Declared.Record) Halt → List ℕ
step_of (Ok (Some r)) = 0 ∷ (told_numbers r ++ reading_of r.outcome)
step_of (Ok None) = 0 ∷ []
step_of (Err halt) = halt_of halt
