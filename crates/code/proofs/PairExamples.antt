-- The values of document 02, §10, computed: reads and writes of two fields as one.
use Prim.Native.Nat.{ℕ}
use mathlib.Core.Path.{◌≡◌, refl}
use mathlib.Core.List.{List, [], ◌∷◌}
use Rattle.code.specs.Count.{choose, fewer, least}
use Rattle.code.specs.Layout.{counts, grant}
use Rattle.code.specs.Deal.{written, rank, digits, number, laid, places, deal, plain, plainly}
use Rattle.code.specs.Cells.{bit_place, wit, value, listed, sum, group, groups, sound, wit_of, byte_of, stored, ones, turned}
use Rattle.code.specs.Code.{dealt, told, pattern, room, deals}
use Rattle.code.specs.Field.{zeros, unerased, past, carriers, read_at, read, erase_by, leftmost, cleared_by, after_by, lay, after, write_at, write_on, write}
use Rattle.code.specs.Run.{kept}
use Rattle.code.specs.declared.Pair.{Pair}
use Rattle.code.specs.Shape.{first_of, ranges_due, given, ranges_of, all_ranges, order_of, outside, granted, misfit, counts_of, width_of}
use Rattle.code.specs.Calls.{read_cells, storing, write_cells, refusal, answer, leaves, generation, holds, left, field_read, field_write, unsound, numberless, miscounts, exceeds, count_told, spent, taker, over_range, over_taker, write_refusal, made_at, write_reply, write_leaves}
use Rattle.code.specs.Pair.{unequal, pair_holds, completing, pair_read_refusal, pair_read_reply, pair_write_refusal, first_spent, first_due, second_due, pair_written, pair_write_reply, pair_first_leaves, pair_second_leaves}

-- two fields of m 2 and one range
abbrev alike : ℕ → ℕ → ℕ → ℕ → Pair
alike form v t1 t2 = record { form = form; m = 2; t1 = t1; v1 = v; t2 = t2; v2 = v }

-- the answer of a write and the cells of both fields
abbrev Made : Pair → List ℕ → List ℕ → ℕ → List ℕ → List ℕ → List ℕ → Type 0
Made p first second x reply first' second' =
    (pair_write_reply p x first second ≡ reply) × (pair_first_leaves p x first second ≡ first') × (pair_second_leaves p x first second ≡ second')

-- the four writes of two fields of form 1 and a fifth; form 0, where a blank field holds 0; refusals of the first field, of the second, and of unequal ranges
pub pairs-written :
    Made (alike 1 20 2 2) (0x00 ∷ 0x00 ∷ []) (0x00 ∷ 0x00 ∷ []) 7 (0 ∷ 0 ∷ 1 ∷ 1 ∷ []) (0x08 ∷ 0x00 ∷ []) (0x00 ∷ 0x00 ∷ [])
    × Made (alike 1 20 2 2) (0x08 ∷ 0x00 ∷ []) (0x00 ∷ 0x00 ∷ []) 19 (0 ∷ 0 ∷ 2 ∷ 5 ∷ []) (0xEC ∷ 0x80 ∷ []) (0x00 ∷ 0x00 ∷ [])
    × Made (alike 1 20 2 2) (0xEC ∷ 0x80 ∷ []) (0x00 ∷ 0x00 ∷ []) 0 (0 ∷ 1 ∷ 1 ∷ 1 ∷ []) (0xEC ∷ 0x80 ∷ []) (0x00 ∷ 0x80 ∷ [])
    × Made (alike 1 20 2 2) (0xEC ∷ 0x80 ∷ []) (0x00 ∷ 0x80 ∷ []) 13 (0 ∷ 1 ∷ 2 ∷ 5 ∷ []) (0xEC ∷ 0x80 ∷ []) (0xD8 ∷ 0xC0 ∷ [])
    × Made (alike 1 20 2 2) (0xEC ∷ 0x80 ∷ []) (0xD8 ∷ 0xC0 ∷ []) 1 (5 ∷ []) (0xEC ∷ 0x80 ∷ []) (0xD8 ∷ 0xC0 ∷ [])
    × Made (alike 0 20 2 2) (0x00 ∷ 0x40 ∷ []) (0x00 ∷ 0x00 ∷ []) 5 (0 ∷ 0 ∷ 2 ∷ 4 ∷ []) (0xC8 ∷ 0xC0 ∷ []) (0x00 ∷ 0x00 ∷ [])
    × Made (alike 0 20 2 2) (0xC2 ∷ 0xC0 ∷ []) (0x00 ∷ 0x00 ∷ []) 0 (0 ∷ 1 ∷ 1 ∷ 2 ∷ []) (0xC2 ∷ 0xC0 ∷ []) (0x02 ∷ 0x40 ∷ [])
    × Made (alike 0 20 2 2) (0x00 ∷ 0x00 ∷ []) (0x00 ∷ 0x40 ∷ []) 0 (0 ∷ 0 ∷ 1 ∷ 2 ∷ []) (0x02 ∷ 0x40 ∷ []) (0x00 ∷ 0x40 ∷ [])
    × Made (alike 0 20 2 2) (0xC1 ∷ 0xC0 ∷ []) (0xC1 ∷ 0xC0 ∷ []) 5 (5 ∷ []) (0xC1 ∷ 0xC0 ∷ []) (0xC1 ∷ 0xC0 ∷ [])
    × Made (alike 0 20 2 2) (0x02 ∷ 0x80 ∷ []) (0x00 ∷ []) 20 (6 ∷ []) (0x02 ∷ 0x80 ∷ []) (0x00 ∷ [])
    × Made (alike 0 20 2 2) (0x00 ∷ 0x40 ∷ []) (0x00 ∷ []) 5 (3 ∷ []) (0x00 ∷ 0x40 ∷ []) (0x00 ∷ [])
    × Made (record { form = 0; m = 9; t1 = 2; v1 = 20; t2 = 2; v2 = 21 }) (0x00 ∷ 0x40 ∷ []) (0x00 ∷ 0x00 ∷ []) 5 (18 ∷ []) (0x00 ∷ 0x40 ∷ []) (0x00 ∷ 0x00 ∷ [])
unfolding choose fewer least room deals counts grant written rank digits number laid places deal plain plainly bit_place wit value listed sum group groups sound wit_of byte_of stored ones turned zeros unerased past dealt carriers told pattern read_at read erase_by leftmost cleared_by after_by lay after write_at write_on write kept read_cells storing write_cells refusal answer leaves first_of ranges_due given ranges_of all_ranges order_of outside granted misfit counts_of width_of generation holds left field_read field_write unsound numberless miscounts exceeds count_told spent taker over_range over_taker write_refusal made_at write_reply write_leaves unequal pair_holds completing pair_read_refusal pair_read_reply pair_write_refusal first_spent first_due second_due pair_written pair_write_reply pair_first_leaves pair_second_leaves
pairs-written = ((refl, refl, refl), (refl, refl, refl), (refl, refl, refl), (refl, refl, refl), (refl, refl, refl), (refl, refl, refl), (refl, refl, refl), (refl, refl, refl), (refl, refl, refl), (refl, refl, refl), (refl, refl, refl), (refl, refl, refl))

-- reads of both forms; a second of another length; a blank first of form 1; a form that has no pairs
pub pairs-read :
    (pair_read_reply (alike 0 20 2 2) (0x00 ∷ 0x00 ∷ []) (0x00 ∷ 0x00 ∷ []) ≡ 0 ∷ 0 ∷ 4 ∷ [])
    × (pair_read_reply (alike 0 20 2 2) (0x04 ∷ 0x00 ∷ []) (0x00 ∷ 0x00 ∷ []) ≡ 0 ∷ 7 ∷ 3 ∷ [])
    × (pair_read_reply (alike 0 4 3 2) (0x4F ∷ []) (0x00 ∷ 0x00 ∷ []) ≡ 3 ∷ [])
    × (pair_read_reply (alike 1 20 2 2) (0x08 ∷ 0x00 ∷ []) (0x00 ∷ 0x00 ∷ []) ≡ 0 ∷ 7 ∷ 3 ∷ [])
    × (pair_read_reply (alike 1 20 2 2) (0xEC ∷ 0x80 ∷ []) (0xD8 ∷ 0xC0 ∷ []) ≡ 0 ∷ 13 ∷ 0 ∷ [])
    × (pair_read_reply (alike 1 20 2 2) (0x00 ∷ 0x00 ∷ []) (0x00 ∷ 0x80 ∷ []) ≡ 11 ∷ [])
    × (pair_read_reply (alike 2 20 2 2) (0x00 ∷ 0x00 ∷ []) (0x00 ∷ 0x00 ∷ []) ≡ 1 ∷ [])
unfolding choose fewer least room deals counts grant written rank digits number laid places deal plain plainly bit_place wit value listed sum group groups sound wit_of byte_of stored ones turned zeros unerased past dealt carriers told pattern read_at read erase_by leftmost cleared_by after_by lay after write_at write_on write kept read_cells storing write_cells refusal answer leaves first_of ranges_due given ranges_of all_ranges order_of outside granted misfit counts_of width_of generation holds left field_read field_write unsound numberless miscounts exceeds count_told spent taker over_range over_taker write_refusal made_at write_reply write_leaves unequal pair_holds completing pair_read_refusal pair_read_reply pair_write_refusal first_spent first_due second_due pair_written pair_write_reply pair_first_leaves pair_second_leaves
pairs-read = (refl, refl, refl, refl, refl, refl, refl)
