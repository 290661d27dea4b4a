-- Document 02, §3: dumps moved there and back, and new dumps walked, computed from the definitions.
use Prim.Native.Nat.{ℕ, zero, suc}
use mathlib.Core.Path.{◌≡◌, refl}
use mathlib.Core.List.{List, [], ◌∷◌, ◌++◌}
use lib.ListN.{replicate}
use Rattle.code.specs.declared.Kind.TheVariants.{Old, New}
use Rattle.code.specs.Lists.{same}
use Rattle.code.specs.Shape.{single, ranges_due, given}
use Rattle.code.specs.Cells.{listed}
use Rattle.code.specs.Calls.{refusal, answer, leaves, filled}
use Rattle.code.specs.Numerals.{sevens, numerals_of, longer, read_sevens, preceded, read_numbers}
use Rattle.code.specs.LayoutList.{listed_numbers, listed_by, listed_shape, listed_of, layouts_of, led_layouts, uncounted, followed, read_layout, read_layouts, counted_layouts, layout_list}
use Rattle.code.specs.Export.{record_of}
use Rattle.code.specs.Dump.{Record, record_by, out_of_list, broken, found, step_in, taken, ended, stopped, behind_list, opening_as, opening, step_on, step, cells_of, walk_from, start_of, walk}
use Rattle.code.specs.NewDump.{entry_head, records_of, new_dump_of, entries_of, stop_of, listed_in, place_of, joined, first_use, numbered, foreign, first_refusal, move_refusal}
use Rattle.code.specs.NewDump.{to_new, to_new_refusal, to_new_reply, to_new_leaves, to_old, to_old_refusal, to_old_reply, to_old_leaves}

abbrev old : List ℕ
old =
    0x07 ∷ 0x02 ∷ 0x03 ∷ 0x04 ∷ 0x01 ∷ 0x4F ∷ 0xAC ∷ 0x02 ∷ 0x02 ∷ 0x02 ∷ 0x14 ∷ 0x02 ∷ 0x00 ∷ 0x40 ∷
    0x08 ∷ 0x02 ∷ 0x03 ∷ 0x04 ∷ 0x01 ∷ 0x00 ∷ 0x09 ∷ 0x02 ∷ 0x02 ∷ 0x14 ∷ 0x02 ∷ 0x02 ∷ 0x80 ∷ []

abbrev new : List ℕ
new =
    0x02 ∷ 0x00 ∷ 0x02 ∷ 0x03 ∷ 0x04 ∷ 0x00 ∷ 0x02 ∷ 0x02 ∷ 0x14 ∷ 0x07 ∷ 0x00 ∷ 0x01 ∷ 0x4F ∷ 0xAC ∷
    0x02 ∷ 0x01 ∷ 0x02 ∷ 0x00 ∷ 0x40 ∷ 0x08 ∷ 0x00 ∷ 0x01 ∷ 0x00 ∷ 0x09 ∷ 0x01 ∷ 0x02 ∷ 0x02 ∷ 0x80 ∷ []

pub moved :
    ((to_new_reply old (replicate 200 0) ≡ 0 ∷ 28 ∷ []) × (to_new old ≡ new))
    × ((to_old_reply new (replicate 27 0) ≡ 0 ∷ 27 ∷ []) × (to_old_leaves new (replicate 27 0) ≡ old))
    × ((to_new_reply [] (0 ∷ []) ≡ 0 ∷ 1 ∷ []) × (to_new_leaves [] (7 ∷ 8 ∷ []) ≡ 0 ∷ 8 ∷ []))
    × ((to_old_reply (0 ∷ []) [] ≡ 0 ∷ 0 ∷ []) × (to_old (0 ∷ []) ≡ []))
    × (to_old_reply new (replicate 26 0) ≡ 9 ∷ [])
    × (to_new_reply old (replicate 27 0) ≡ 9 ∷ [])
    × (to_old_reply (2 ∷ 0 ∷ 2 ∷ 3 ∷ 4 ∷ 1 ∷ 2 ∷ 3 ∷ 4 ∷ 7 ∷ 0 ∷ 1 ∷ 0x4F ∷ []) (replicate 100 0) ≡ 12 ∷ [])
    × (to_old (2 ∷ 0 ∷ 2 ∷ 3 ∷ 4 ∷ 0 ∷ 2 ∷ 3 ∷ 4 ∷ 7 ∷ 1 ∷ 1 ∷ 0x4F ∷ []) ≡ 7 ∷ 2 ∷ 3 ∷ 4 ∷ 1 ∷ 0x4F ∷ [])
unfolding refusal answer leaves same sevens numerals_of longer read_sevens preceded read_numbers listed_numbers listed_by filled ranges_due listed_shape listed given listed_of layouts_of led_layouts uncounted followed read_layout read_layouts counted_layouts layout_list record_of record_by out_of_list broken found step_in behind_list opening_as opening step_on step cells_of walk_from start_of walk entry_head records_of new_dump_of entries_of stop_of listed_in place_of joined first_use numbered foreign first_refusal move_refusal to_new to_new_refusal to_new_reply to_new_leaves to_old to_old_refusal to_old_reply to_old_leaves
moved = ((refl, refl), (refl, refl), (refl, refl), (refl, refl), refl, refl, refl, refl)

-- a record with the numbers serial, layout, form, m, t, v, start and count
abbrev of : ℕ → ℕ → ℕ → ℕ → ℕ → ℕ → ℕ → ℕ → Record
of serial layout form m t v start count =
    record { serial = serial; layout = layout; shape = single form m t v; start = start; count = count }

-- an empty dump has no count; the steps behind the layouts, which may be 64
pub walked :
    (walk New [] ≡ stopped 7 (0 ∷ []) ∷ [])
    × (walk New new ≡ taken (of 7 0 0 2 3 4 12 1) ∷ taken (of 300 1 0 2 2 20 17 2) ∷ taken (of 8 0 0 2 3 4 22 1) ∷ taken (of 9 1 0 2 2 20 26 2) ∷ ended ∷ [])
    × (walk New (1 ∷ 3 ∷ 2 ∷ 3 ∷ 4 ∷ 7 ∷ 0 ∷ 1 ∷ 0x4F ∷ []) ≡ taken (of 7 0 3 2 3 4 8 1) ∷ ended ∷ [])
    × (walk New (1 ∷ 0 ∷ 2 ∷ 3 ∷ 4 ∷ 7 ∷ 0 ∷ 1 ∷ 0x4F ∷ 8 ∷ 1 ∷ 1 ∷ 0x4F ∷ []) ≡ taken (of 7 0 0 2 3 4 8 1) ∷ stopped 7 (9 ∷ []) ∷ [])
    × (walk New (1 ∷ 0 ∷ 2 ∷ 3 ∷ []) ≡ stopped 7 (0 ∷ []) ∷ [])
    × (walk New (65 ∷ replicate 260 0) ≡ stopped 7 (0 ∷ []) ∷ [])
    × (walk New (64 ∷ replicate 256 0) ≡ ended ∷ [])
unfolding longer read_sevens preceded read_numbers listed_by filled ranges_due listed_shape led_layouts uncounted followed read_layout read_layouts counted_layouts layout_list record_by out_of_list broken found step_in behind_list opening_as opening step_on step walk_from start_of walk
walked = (refl, refl, refl, refl, refl, refl, refl)

-- records `01 02 02 v 00` with as many ranges v, from 2 on
abbrev ranging : ℕ → ℕ → List ℕ
ranging zero v = []
ranging (suc n) v = 1 ∷ 2 ∷ 2 ∷ v ∷ 0 ∷ ranging n (suc v)

-- 64 layouts move, 65 do not; one record of 65,526 bytes becomes a dump of 65,536 bytes, and one byte more is too much
pub limits :
    (to_new_reply (ranging 64 2) (replicate 449 0) ≡ 0 ∷ 449 ∷ [])
    × (to_new_reply (ranging 65 2) (replicate 1000 0) ≡ 13 ∷ [])
    × (to_new_reply (5 ∷ 2 ∷ 3 ∷ 4 ∷ 0xF6 ∷ 0xFF ∷ 3 ∷ replicate 65526 0) (replicate 65536 0) ≡ 0 ∷ 65536 ∷ [])
    × (to_new_reply (5 ∷ 2 ∷ 3 ∷ 4 ∷ 0xF7 ∷ 0xFF ∷ 3 ∷ replicate 65527 0) (replicate 65536 0) ≡ 8 ∷ [])
unfolding refusal answer same sevens numerals_of longer read_sevens preceded read_numbers listed_numbers listed given listed_of layouts_of record_of record_by out_of_list broken found step_in opening_as opening step_on step cells_of walk_from start_of walk entry_head records_of new_dump_of entries_of stop_of place_of joined first_use numbered first_refusal move_refusal to_new to_new_refusal to_new_reply
limits = (refl, refl, refl, refl)
