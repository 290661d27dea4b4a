-- Document 02, §3 (RULES 9): what the passes of a move over the records of a dump tell.
use Rattle.std.specs.Prelude.{ℕ, ◌*◌, ◌≤◌, ◌≡◌, List, [], ◌∷◌, ltb, length, get_or, take, drop, Result, Ok, Err}
use Rattle.code.specs.declared.Kind.{Kind}
use Rattle.code.specs.declared.Kind.TheVariants.{Old, New}
use Rattle.code.specs.Calls.{refusal}
use Rattle.code.specs.Refusals.{refusal_reply}
use Rattle.code.specs.declared.Refusal.{Refusal}
use Rattle.code.specs.LayoutList.{Listed}
use Rattle.code.specs.Dump.{Record, Source, listed_layouts, entered, opening, walk}
use Rattle.code.specs.NewDump.{Entry, records_of, entries_of, stop_of, first_use, numbered, to_old}
use Rattle.records.specs.Source.{source_of}
use Rattle.records.specs.declared.Head.{Head}
use Rattle.dump.specs.Answers.{halt_of}
use Rattle.dump.specs.declared.Halt.{Halt}
use Rattle.moves.specs.Kept.{Keeps}
use Rattle.moves.specs.declared.to_new.Collected.{Collected}

-- RULES 12: the refusal of a test, nothing where it is passed
abbrev pub refused_by : {A : Type 0} → Result A Refusal → List ℕ
refused_by (Ok a) = []
refused_by (Err k) = refusal_reply k

-- 02, §3; RULES 12: "8 again where the moved dump would pass 65,536 bytes, 9 last", by the moved dump's length and the output's
unfoldable pub length_refusal : ℕ → ℕ → List ℕ
length_refusal long room = refusal ((8 ∷ [], ltb 65536 long) ∷ (9 ∷ [], ltb room long) ∷ [])

-- a dump is opened: its records begin at `start`, and its layouts are kept by their places
abbrev pub Begins : Kind → List ℕ → List ℕ → ℕ → Type 0
Begins kind bytes places start = opening kind bytes ≡ entered (source_of kind bytes places) start

-- the records of a dump
abbrev pub entries_in : Kind → List ℕ → List Entry
entries_in kind bytes = entries_of bytes (walk kind bytes)

-- the bytes of records with the numbers of their layouts in a list, in a dump that says its layouts so
abbrev pub said_by : Source → List Listed → List Entry → List ℕ
said_by source ls es = records_of source (numbered ls es)

-- 01, Dumps; RULES 8: "serial, m, t, v": the numbers before n of a record of an old dump
abbrev pub old_head : Record → List ℕ
old_head r = r.serial ∷ r.shape.m ∷ r.shape.t ∷ get_or r.shape.v 0 0 ∷ []

-- the cells of a head
abbrev pub cells_at : List ℕ → Head → List ℕ
cells_at bytes h = take h.count (drop h.start bytes)

-- the first pass of a move to old: the walk meets the end, and the length is that of the old dump; or why it stops
abbrev pub Measures : List ℕ → Result ℕ Halt → Type 0
Measures bytes (Ok n) = (stop_of (walk New bytes) ≡ []) × (n ≡ length (to_old bytes))
Measures bytes (Err halt) = stop_of (walk New bytes) ≡ halt_of halt

-- the first pass of a move to new: the walk meets the end, the layouts in order of first use are kept, and the records come to `total` bytes where each has
-- a layout number of one byte
pub record Collects (bytes kept : List ℕ) (total count : ℕ) : Type 0 where
  pub whole : stop_of (walk Old bytes) ≡ []
  pub keeps : Keeps count kept (first_use [] (entries_in Old bytes))
  pub sum : total ≡ length (said_by (listed_layouts []) [] (entries_in Old bytes))
  pub few : total ≤ 46 * length bytes

-- or why it stops
abbrev pub Gathers : List ℕ → List ℕ → Result Collected Halt → Type 0
Gathers bytes kept (Ok c) = Collects bytes kept c.total c.layouts
Gathers bytes kept (Err halt) = stop_of (walk Old bytes) ≡ halt_of halt

-- 02, §3; RULES 9: "records of serial, layout number from 0": the bytes of an old dump's records with the numbers of their layouts in a list
abbrev pub numbered_by : List Listed → List ℕ → List ℕ
numbered_by ls bytes = said_by (listed_layouts ls) ls (entries_in Old bytes)
