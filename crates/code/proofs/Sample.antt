-- Document 01's sample dump, its listing and its rows computed from the definitions.
use Prim.Native.Nat.{ℕ}
use mathlib.Core.Path.{◌≡◌, refl}
use mathlib.Core.List.{List, [], ◌∷◌}
use lib.ListN.{replicate}
use Rattle.code.specs.declared.Kind.TheVariants.{Old}
use Rattle.code.specs.Count.{choose, fewer, least}
use Rattle.code.specs.Layout.{counts, grant}
use Rattle.code.specs.Deal.{written, rank, digits, number, plain}
use Rattle.code.specs.Cells.{bit_place, wit, value, listed, group, groups, sound}
use Rattle.code.specs.Code.{dealt, told, room, deals}
use Rattle.code.specs.Field.{zeros, unerased, past, carriers, read_at, read}
use Rattle.code.specs.Shape.{first_of, ranges_due, given, ranges_of, all_ranges, order_of, outside, granted, misfit, counts_of, width_of}
use Rattle.code.specs.Calls.{read_cells, refusal, answer, filled, read_fields, field_read, unsound, numberless, miscounts, exceeds, count_told, generation, holds, left, read_refusal, read_reply}
use Rattle.code.specs.Numerals.{longer, read_sevens, preceded, read_numbers}
use Rattle.code.specs.Dump.{record_by, out_of_list, broken, found, step_in, opening_as, opening, step_on, step, cells_of, outcome, walk_from, start_of, walk, row_numbers, rows_of, walk_leaves}
use Rattle.code.specs.Lists.{ascii}
use Rattle.code.specs.Listing.{spelled, record_line, last_line, stop_lines, lines, listing}

abbrev sample : List ℕ
sample =
    0x07 ∷ 0x02 ∷ 0x03 ∷ 0x04 ∷ 0x01 ∷ 0x4F ∷ 0xAC ∷ 0x02 ∷ 0x02 ∷ 0x02 ∷ 0x14 ∷ 0x02 ∷ 0x00 ∷ 0x40 ∷
    0x08 ∷ 0x02 ∷ 0x03 ∷ 0x04 ∷ 0x01 ∷ 0x00 ∷ 0x09 ∷ 0x02 ∷ 0x02 ∷ 0x14 ∷ 0x02 ∷ 0x02 ∷ 0x80 ∷ []

-- also `80 00` as a serial, which is not shortest; and the rows of a walk, with a number behind them that stays
pub sampled :
    (listing Old sample ≡ ascii "7 3 2 0\n300 1 1 1\n8 1 0 3\n9 refused 16\nrecords 4\n")
    × (listing Old (0x80 ∷ 0x00 ∷ []) ≡ ascii "stopped 7 at 0\nrecords 0\n")
    × (walk_leaves Old sample 0 (replicate 45 1) ≡
    7 ∷ 2 ∷ 3 ∷ 4 ∷ 5 ∷ 1 ∷ 0 ∷ 3 ∷ 2 ∷ 0 ∷ 0 ∷
    300 ∷ 2 ∷ 2 ∷ 20 ∷ 12 ∷ 2 ∷ 0 ∷ 1 ∷ 1 ∷ 1 ∷ 0 ∷
    8 ∷ 2 ∷ 3 ∷ 4 ∷ 19 ∷ 1 ∷ 0 ∷ 1 ∷ 0 ∷ 3 ∷ 0 ∷
    9 ∷ 2 ∷ 2 ∷ 20 ∷ 25 ∷ 2 ∷ 16 ∷ 1 ∷ 0 ∷ 0 ∷ 0 ∷ 1 ∷ [])
unfolding choose fewer least room deals counts grant written rank digits number plain bit_place wit value listed group groups sound zeros unerased past dealt carriers told read_at read read_cells refusal answer filled read_fields first_of ranges_due given ranges_of all_ranges order_of outside granted misfit counts_of width_of field_read unsound numberless miscounts exceeds count_told generation holds left read_refusal read_reply longer read_sevens preceded read_numbers record_by out_of_list broken found step_in opening_as opening step_on step cells_of outcome walk_from start_of walk row_numbers rows_of walk_leaves ascii spelled record_line last_line stop_lines lines listing
sampled = (refl, refl, refl)
