-- The values that document 01 marks P, computed from the definitions, and the rank of 003's example.
use Prim.Native.Nat.{ℕ}
use mathlib.Core.Path.{◌≡◌, refl}
use mathlib.Core.List.{List, [], ◌∷◌}
use Rattle.code.specs.Count.{choose, fewer, least}
use Rattle.code.specs.Layout.{counts, grant}
use Rattle.code.specs.Deal.{written, rank, digits, number, laid, places, deal, plain, plainly}
use Rattle.code.specs.Cells.{bit_place, wit, value, listed, sum, group, groups, sound, wit_of, byte_of, stored, ones, turned}
use Rattle.code.specs.Code.{dealt, told, pattern, room, deals}
use Rattle.code.specs.Field.{zeros, unerased, past, carriers, read_at, read, erase_by, leftmost, cleared_by, after_by, lay, after, write_at, write_on, write}
use Rattle.code.proofs.Groups.{erase}
use Rattle.code.specs.Run.{kept}
use Rattle.code.specs.declared.Shape.{Shape}
use Rattle.code.specs.Shape.{single, shaped, first_of, ranges_due, given, ranges_of, all_ranges, order_of, outside, granted, misfit, counts_of, width_of}
use Rattle.code.specs.Calls.{read_cells, storing, write_cells, refusal, answer, leaves, layout_refusal, layout_reply, field_read, field_write, unsound, numberless, miscounts, exceeds, count_told, spent, taker, over_range, over_taker, generation, holds, left, read_refusal, read_reply, write_refusal, made_at, write_reply, write_leaves}

-- a write's reply and the cells that it leaves
abbrev Written : Shape → ℕ → List ℕ → List ℕ → List ℕ → Type 0
Written s x bytes reply after = (write_reply s x bytes ≡ reply) × (write_leaves s x bytes ≡ after)

pub worked :
    (layout_reply (shaped 2 3 4) 4 ≡ 0 ∷ 4 ∷ 3 ∷ 2 ∷ [])
    × (layout_reply (shaped 2 3 4) 3 ≡ 2 ∷ [])
    × (layout_reply (shaped 2 2 2) 256 ≡ 0 ∷ 2 ∷ 1 ∷ [])
    × (layout_reply (shaped 2 2 20) 256 ≡ 0 ∷ 5 ∷ 3 ∷ [])
    × Written (shaped 2 3 4) 3 (0x00 ∷ []) (0 ∷ 1 ∷ 2 ∷ []) (0x03 ∷ [])
    × Written (shaped 2 3 4) 1 (0x03 ∷ []) (0 ∷ 2 ∷ 1 ∷ []) (0x0B ∷ [])
    × Written (shaped 2 3 4) 2 (0x0B ∷ []) (0 ∷ 3 ∷ 2 ∷ []) (0x4F ∷ [])
    × Written (shaped 2 3 4) 0 (0x00 ∷ []) (0 ∷ 1 ∷ 0 ∷ []) (0x00 ∷ [])
    × (read_reply (shaped 2 3 4) (0x00 ∷ []) ≡ 0 ∷ 1 ∷ 0 ∷ 3 ∷ [])
    × (read_reply (shaped 2 3 4) (0x23 ∷ []) ≡ 0 ∷ 2 ∷ 3 ∷ 1 ∷ [])
    × (read_reply (shaped 2 3 4) (0x43 ∷ []) ≡ 16 ∷ 2 ∷ [])
    × Written (shaped 2 2 20) 16 (0x00 ∷ 0x00 ∷ []) (0 ∷ 1 ∷ 2 ∷ []) (0x01 ∷ 0x40 ∷ [])
    × Written (shaped 2 2 20) 0 (0x00 ∷ 0x40 ∷ []) (0 ∷ 2 ∷ 4 ∷ []) (0xC1 ∷ 0xC0 ∷ [])
    × (rank (0 ∷ 1 ∷ 0 ∷ 1 ∷ 1 ∷ 0 ∷ 0 ∷ []) ≡ 15)
unfolding choose fewer least room deals counts grant written rank digits number laid places deal plain plainly bit_place wit value listed sum group groups sound wit_of byte_of stored ones turned zeros unerased past dealt carriers told pattern read_at read erase erase_by leftmost cleared_by after_by lay after write_at write_on write kept read_cells storing write_cells refusal answer leaves first_of ranges_due given ranges_of all_ranges order_of outside granted misfit counts_of width_of layout_refusal layout_reply field_read field_write unsound numberless miscounts exceeds count_told spent taker over_range over_taker generation holds left read_refusal read_reply write_refusal made_at write_reply write_leaves
worked = (refl, refl, refl, refl, (refl, refl), (refl, refl), (refl, refl), (refl, refl), refl, refl, refl, (refl, refl), (refl, refl), refl)
