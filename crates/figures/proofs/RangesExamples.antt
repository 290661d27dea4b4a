-- The values of document 02, §7, computed: layouts, readings and writes by a range for each generation, and new dumps that list them.
use Prim.Native.Nat.{ℕ, ◌^◌}
use mathlib.Core.Path.{◌≡◌, refl, ◌∙◌}
use mathlib.Core.List.{List, [], ◌∷◌}
use native.Mathlib.Omega.{arith}
use lib.ListN.{length, replicate}
use Rattle.code.specs.Count.{choose, fewer, least}
use Rattle.code.specs.Layout.{counts, grant}
use Rattle.code.specs.Deal.{written, rank, digits, number, laid, places, deal, plain, plainly}
use Rattle.code.specs.Cells.{bit_place, wit, value, listed, sum, group, groups, sound, wit_of, byte_of, stored, ones, turned}
use Rattle.code.specs.Code.{dealt, told, pattern, room, deals}
use Rattle.code.specs.Field.{zeros, unerased, past, carriers, read_at, read, erase_by, leftmost, cleared_by, after_by, lay, after, write_at, write_on, write}
use Rattle.code.proofs.Groups.{erase}
use Rattle.code.specs.Run.{kept}
use Rattle.code.specs.declared.Shape.{Shape}
use Rattle.code.specs.Shape.{single, shaped, first_of, ranges_due, given, ranges_of, all_ranges, order_of, outside, granted, misfit, counts_of, width_of}
use Rattle.code.specs.Calls.{filled, read_cells, storing, write_cells, refusal, answer, leaves, layout_refusal, layout_reply, field_read, field_write, unsound, numberless, miscounts, exceeds, count_told, spent, taker, over_range, over_taker, generation, holds, left, read_refusal, read_reply, write_refusal, made_at, write_reply, write_leaves}
use Rattle.code.specs.declared.Kind.TheVariants.{New}
use Rattle.code.specs.LayoutList.{listed_by, listed_shape, led_layouts, uncounted, followed, read_layout, read_layouts, counted_layouts, layout_list}
use Rattle.code.specs.Numerals.{longer, read_sevens, preceded, read_numbers}
use Rattle.code.specs.Dump.{Record, taken, ended, stopped, record_by, out_of_list, broken, found, step_in, behind_list, opening_as, opening, step_on, step, cells_of, outcome, walk_from, start_of, walk}
use Rattle.code.specs.NewDump.{listed_as, listed_behind, listed_reply, stop_of, listed_in, foreign, first_refusal, move_refusal, to_old_refusal, to_old_reply}
use Rattle.code.proofs.Rows.{along, row, weigh, room_by_row, counts_by_row, grant-row}

-- a shape of form 2
abbrev ranged : ℕ → ℕ → List ℕ → Shape
ranged m t vs = record { form = 2; m = m; t = t; count = length vs; v = filled 16 vs }

-- a write's reply and the cells that it leaves
abbrev Written : Shape → ℕ → List ℕ → List ℕ → List ℕ → Type 0
Written s x bytes reply after = (write_reply s x bytes ≡ reply) × (write_leaves s x bytes ≡ after)

abbrev falling : Shape
falling = ranged 2 3 (20 ∷ 4 ∷ 2 ∷ [])

abbrev equal : Shape
equal = ranged 2 3 (4 ∷ 4 ∷ 4 ∷ [])

-- lists, a range out of its bounds, and as many ranges as there are generations
pub lists-ranged :
    (layout_reply falling 256 ≡ 0 ∷ 4 ∷ 2 ∷ 1 ∷ [])
    × (layout_reply equal 256 ≡ 0 ∷ 4 ∷ 3 ∷ 2 ∷ [])
    × (layout_reply (ranged 2 2 (13 ∷ 13 ∷ [])) 256 ≡ 0 ∷ 5 ∷ 3 ∷ [])
    × (layout_reply (ranged 2 3 (20 ∷ 4 ∷ 1 ∷ [])) 256 ≡ 1 ∷ [])
    × (layout_reply (ranged 2 3 (20 ∷ 4 ∷ [])) 256 ≡ 1 ∷ [])
    × (layout_reply (ranged 2 3 (20 ∷ 4 ∷ 2 ∷ 2 ∷ [])) 256 ≡ 1 ∷ [])
    × (layout_reply falling 3 ≡ 2 ∷ [])
unfolding filled choose fewer least room deals counts grant written rank digits number laid places deal plain plainly bit_place wit value listed sum group groups sound wit_of byte_of stored ones turned zeros unerased past dealt carriers told pattern read_at read erase erase_by leftmost cleared_by after_by lay after write_at write_on write kept read_cells storing write_cells refusal answer leaves first_of ranges_due given ranges_of all_ranges order_of outside granted misfit counts_of width_of layout_refusal layout_reply field_read field_write unsound numberless miscounts exceeds count_told spent taker over_range over_taker generation holds left read_refusal read_reply write_refusal made_at write_reply write_leaves
lists-ranged = (refl, refl, refl, refl, refl, refl, refl)

-- steps that grow towards the first generations, and long ones
by_rows : (t : ℕ) (vs hs : List ℕ) → counts_by_row 256 3 3 1 vs ≡ hs → ranges_of (ranged 2 t vs) ≡ vs → granted (ranged 2 t vs) 256 ≡ hs
unfolding granted first_of
by_rows t vs hs q e = rw e (grant-row 256 2 1 vs (omega arith) ∙ q)

pub long-steps :
    (granted (ranged 2 2 (2 ∷ 2 ^ 56 ∷ [])) 256 ≡ 37 ∷ 36 ∷ [])
    × (granted (ranged 2 2 (2 ^ 56 ∷ 2 ∷ [])) 256 ≡ 29 ∷ 1 ∷ [])
    × (granted (ranged 2 3 (2 ∷ 2 ^ 56 ∷ 2 ∷ [])) 256 ≡ 37 ∷ 36 ∷ 1 ∷ [])
unfolding along row weigh room_by_row counts_by_row least ranges_of given listed filled
long-steps = (
  by_rows 2 (2 ∷ 2 ^ 56 ∷ []) _ refl refl,
  by_rows 2 (2 ^ 56 ∷ 2 ∷ []) _ refl refl,
  by_rows 3 (2 ∷ 2 ^ 56 ∷ 2 ∷ []) _ refl refl,
)

-- "6 is tested after 5": by the range of the generation that takes the number, and on spent cells never
pub worked-ranged :
    Written falling 19 (0x00 ∷ []) (0 ∷ 1 ∷ 3 ∷ []) (0x0E ∷ [])
    × (read_reply falling (0x0E ∷ []) ≡ 0 ∷ 1 ∷ 19 ∷ 2 ∷ [])
    × Written falling 3 (0x0E ∷ []) (0 ∷ 2 ∷ 2 ∷ []) (0x8F ∷ [])
    × (read_reply falling (0x8F ∷ []) ≡ 0 ∷ 2 ∷ 3 ∷ 1 ∷ [])
    × Written falling 2 (0x8F ∷ []) (6 ∷ []) (0x8F ∷ [])
    × Written falling 1 (0xEF ∷ []) (5 ∷ []) (0xEF ∷ [])
    × (read_reply falling (0xFF ∷ []) ≡ 15 ∷ 3 ∷ 0 ∷ [])
    × Written equal 9 (0x43 ∷ []) (16 ∷ 2 ∷ []) (0x43 ∷ [])
    × Written equal 9 (0x4F ∷ []) (5 ∷ []) (0x4F ∷ [])
    × (read_reply falling (0x00 ∷ []) ≡ 11 ∷ [])
unfolding filled choose fewer least room deals counts grant written rank digits number laid places deal plain plainly bit_place wit value listed sum group groups sound wit_of byte_of stored ones turned zeros unerased past dealt carriers told pattern read_at read erase erase_by leftmost cleared_by after_by lay after write_at write_on write kept read_cells storing write_cells refusal answer leaves first_of ranges_due given ranges_of all_ranges order_of outside granted misfit counts_of width_of layout_refusal layout_reply field_read field_write unsound numberless miscounts exceeds count_told spent taker over_range over_taker generation holds left read_refusal read_reply write_refusal made_at write_reply write_leaves
worked-ranged = ((refl, refl), refl, (refl, refl), refl, (refl, refl), (refl, refl), refl, (refl, refl), (refl, refl), refl)

-- a record with the numbers serial, layout, start and count
abbrev of : ℕ → ℕ → Shape → ℕ → ℕ → Record
of serial layout s start count = record { serial = serial; layout = layout; shape = s; start = start; count = count }

abbrev dumped : List ℕ
dumped = 1 ∷ 2 ∷ 2 ∷ 3 ∷ 20 ∷ 4 ∷ 2 ∷ 7 ∷ 0 ∷ 1 ∷ 0x0A ∷ 8 ∷ 0 ∷ 1 ∷ 0x00 ∷ []

-- a new dump that lists t ranges; a t that cannot count them, used or not; t out of bounds with one range is the record's own refusal
pub walked-ranged :
    (walk New dumped ≡ taken (of 7 0 falling 10 1) ∷ taken (of 8 0 falling 14 1) ∷ ended ∷ [])
    × (listed_reply dumped 0 ≡ 0 ∷ 2 ∷ 2 ∷ 3 ∷ 3 ∷ 20 ∷ 4 ∷ 2 ∷ [])
    × (listed_reply dumped 1 ≡ 1 ∷ [])
    × (walk New (1 ∷ 2 ∷ 2 ∷ 1 ∷ 20 ∷ []) ≡ stopped 7 (0 ∷ []) ∷ [])
    × (walk New (1 ∷ 2 ∷ 2 ∷ 17 ∷ replicate 17 20) ≡ stopped 7 (0 ∷ []) ∷ [])
    × (walk New (1 ∷ 2 ∷ 2 ∷ 3 ∷ 20 ∷ 4 ∷ []) ≡ stopped 7 (0 ∷ []) ∷ [])
    × (walk New (1 ∷ 0 ∷ 2 ∷ 1 ∷ 20 ∷ 7 ∷ 0 ∷ 1 ∷ 0x0A ∷ []) ≡ taken (of 7 0 (single 0 2 1 20) 8 1) ∷ ended ∷ [])
    × (to_old_reply (1 ∷ 2 ∷ 2 ∷ 3 ∷ 20 ∷ 4 ∷ 2 ∷ []) (replicate 100 0) ≡ 12 ∷ [])
unfolding filled refusal answer longer read_sevens preceded read_numbers ranges_due listed_by listed_shape led_layouts uncounted followed read_layout read_layouts counted_layouts layout_list record_by out_of_list broken found step_in behind_list opening_as opening step_on step walk_from start_of walk listed_as listed_behind listed_reply stop_of listed_in foreign first_refusal move_refusal to_old_refusal to_old_reply
walked-ranged = (refl, refl, refl, refl, refl, refl, refl, refl)
