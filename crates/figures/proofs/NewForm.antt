-- Document 02, §2: values of form 1 computed from the definitions, beside those of form 0 where the lists differ.
use Prim.Native.Nat.{ℕ}
use mathlib.Core.Path.{◌≡◌, refl}
use mathlib.Core.List.{List, [], ◌∷◌}
use Rattle.code.specs.Count.{choose, fewer, least}
use Rattle.code.specs.Layout.{counts, grant}
use Rattle.code.specs.Deal.{written, rank, digits, number, laid, places, deal, plain, plainly}
use Rattle.code.specs.Cells.{bit_place, wit, value, listed, sum, group, groups, sound, wit_of, byte_of, stored, ones, turned}
use Rattle.code.specs.Code.{dealt, told, pattern, room, deals}
use Rattle.code.specs.Field.{zeros, unerased, past, carriers, read_at, read, erase_by, leftmost, cleared_by, after_by, lay, after, write_at, write_on, write}
use Rattle.code.proofs.Groups.{erase}
use Rattle.code.specs.Run.{kept}
use Rattle.code.specs.declared.Shape.{Shape}
use Rattle.code.specs.Shape.{single, shaped, first_of, ranges_due, given, ranges_of, all_ranges, order_of, outside, granted, misfit, counts_of, width_of}
use Rattle.code.specs.Calls.{read_cells, storing, write_cells, refusal, answer, leaves, layout_refusal, layout_reply, field_read, field_write, unsound, numberless, miscounts, exceeds, count_told, spent, taker, over_range, over_taker, generation, holds, left, read_refusal, read_reply, write_refusal, made_at, write_reply, write_leaves}

-- a shape of a new drive
abbrev new : ℕ → ℕ → ℕ → Shape
new m t v = single 1 m t v

-- a write's reply and the cells that it leaves
abbrev Written : Shape → ℕ → List ℕ → List ℕ → List ℕ → Type 0
Written s x bytes reply after = (write_reply s x bytes ≡ reply) × (write_leaves s x bytes ≡ after)

-- the lists differ where v is a sum of form 0 exactly
pub lists-differ :
    (layout_reply (shaped 2 2 13) 256 ≡ 0 ∷ 4 ∷ 3 ∷ [])
    × (layout_reply (new 2 2 13) 256 ≡ 0 ∷ 5 ∷ 3 ∷ [])
    × (layout_reply (shaped 3 2 22) 256 ≡ 0 ∷ 3 ∷ 2 ∷ [])
    × (layout_reply (new 3 2 22) 256 ≡ 0 ∷ 4 ∷ 2 ∷ [])
    × (layout_reply (shaped 4 2 46) 256 ≡ 0 ∷ 3 ∷ 2 ∷ [])
    × (layout_reply (new 4 2 46) 256 ≡ 0 ∷ 4 ∷ 2 ∷ [])
    × (layout_reply (new 2 3 4) 256 ≡ 0 ∷ 4 ∷ 3 ∷ 2 ∷ [])
    × (layout_reply (single 3 2 2 20) 256 ≡ 1 ∷ [])
unfolding choose fewer least room deals counts grant written rank digits number laid places deal plain plainly bit_place wit value listed sum group groups sound wit_of byte_of stored ones turned zeros unerased past dealt carriers told pattern read_at read erase erase_by leftmost cleared_by after_by lay after write_at write_on write kept read_cells storing write_cells refusal answer leaves first_of ranges_due given ranges_of all_ranges order_of outside granted misfit counts_of width_of layout_refusal layout_reply field_read field_write unsound numberless miscounts exceeds count_told spent taker over_range over_taker generation holds left read_refusal read_reply write_refusal made_at write_reply write_leaves
lists-differ = (refl, refl, refl, refl, refl, refl, refl, refl)

-- blank cells have no number; a written 0 turns cells; the numbers of generation 1 are those of form 0 less 1
pub worked-new :
    (read_reply (new 2 3 4) (0x00 ∷ []) ≡ 11 ∷ [])
    × (read_reply (shaped 2 3 4) (0x00 ∷ []) ≡ 0 ∷ 1 ∷ 0 ∷ 3 ∷ [])
    × (read_reply (new 2 2 20) (0x00 ∷ 0x01 ∷ []) ≡ 3 ∷ [])
    × Written (new 2 3 4) 0 (0x00 ∷ []) (0 ∷ 1 ∷ 1 ∷ []) (0x01 ∷ [])
    × Written (new 2 3 4) 1 (0x00 ∷ []) (0 ∷ 1 ∷ 1 ∷ []) (0x02 ∷ [])
    × Written (new 2 3 4) 3 (0x00 ∷ []) (0 ∷ 1 ∷ 1 ∷ []) (0x04 ∷ [])
    × Written (new 2 3 4) 4 (0x00 ∷ []) (6 ∷ []) (0x00 ∷ [])
    × (read_reply (new 2 3 4) (0x04 ∷ []) ≡ 0 ∷ 1 ∷ 3 ∷ 2 ∷ [])
    × (read_reply (new 2 3 4) (0x08 ∷ []) ≡ 16 ∷ 1 ∷ [])
    × Written (new 2 3 4) 0 (0x01 ∷ []) (0 ∷ 2 ∷ 2 ∷ []) (0x07 ∷ [])
    × Written (new 2 3 4) 0 (0x1F ∷ []) (5 ∷ []) (0x1F ∷ [])
unfolding choose fewer least room deals counts grant written rank digits number laid places deal plain plainly bit_place wit value listed sum group groups sound wit_of byte_of stored ones turned zeros unerased past dealt carriers told pattern read_at read erase erase_by leftmost cleared_by after_by lay after write_at write_on write kept read_cells storing write_cells refusal answer leaves first_of ranges_due given ranges_of all_ranges order_of outside granted misfit counts_of width_of layout_refusal layout_reply field_read field_write unsound numberless miscounts exceeds count_told spent taker over_range over_taker generation holds left read_refusal read_reply write_refusal made_at write_reply write_leaves
worked-new = (refl, refl, refl, (refl, refl), (refl, refl), (refl, refl), (refl, refl), refl, refl, (refl, refl), (refl, refl))
