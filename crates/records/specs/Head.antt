-- Documents 01, "Dumps", and 02, §3 (RULES 8, 9): what a record of a dump says, and what reading its head answers.
use Rattle.std.specs.Prelude.{ℕ, cond, [], ◌∷◌, ltb, get_or, Result, Ok, Err}
use Rattle.code.specs.declared.Shape.{Shape}
use Rattle.code.specs.Shape.{shaped}
use Rattle.code.specs.LayoutList.{unlisted, listed_shape}
use Rattle.code.specs.Dump.{Record, Source, own_layouts, listed_layouts, Step, taken, stopped}
use Rattle.records.specs.declared.Said.{Said}
use Rattle.records.specs.declared.Head.{Head}
use Rattle.records.specs.declared.Malformed.{Malformed}

-- 01, Dumps; 02, §3; RULES 8, 9: "serial, m, t, v"; "serial, layout number from 0": the shape that is said
unfoldable pub said_shape : Source → Said → Shape
said_shape own_layouts s = shaped s.m s.t s.v
said_shape (listed_layouts ls) s = listed_shape (get_or ls s.layout unlisted)

-- RULES 8, 9: the record of a head
abbrev pub head_record : Source → Head → Record
head_record source h =
    record { serial = h.serial; layout = h.said.layout; shape = said_shape source h.said; start = h.start; count = h.count }

-- 01, Dumps; RULES 8: "fewer than n bytes after n": of a record at a place, the head, where it says no more bytes than are left
abbrev pub headed : ℕ → ℕ → Head → Result Head Malformed
headed left at h = cond (ltb left h.count) (Err (record { offset = at })) (Ok h)

-- 01, Refusal numbers; RULES 8, 12: as a step of the walk: "7 also the offset of the record's first byte"
abbrev pub head_step : Source → Result Head Malformed → Step
head_step source (Ok h) = taken (head_record source h)
head_step source (Err e) = stopped 7 (e.offset ∷ [])
