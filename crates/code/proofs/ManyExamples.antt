-- Document 02, §5: values of a write of many numbers, computed from the definitions.
use Prim.Native.Nat.{ℕ}
use mathlib.Core.Path.{◌≡◌, refl}
use mathlib.Core.List.{List, [], ◌∷◌}
use lib.ListN.{replicate}
use Rattle.code.specs.Count.{choose, fewer, least}
use Rattle.code.specs.Layout.{counts, grant}
use Rattle.code.specs.Deal.{written, rank, digits, number, laid, places, deal, plain, plainly}
use Rattle.code.specs.Cells.{bit_place, wit, value, listed, sum, group, groups, sound, wit_of, byte_of, stored, ones, turned}
use Rattle.code.specs.Code.{dealt, told, pattern, room, deals}
use Rattle.code.specs.Field.{zeros, unerased, past, carriers, read_at, read, erase_by, leftmost, cleared_by, after_by, lay, after, write_at, write_on, write}
use Rattle.code.proofs.Groups.{erase}
use Rattle.code.specs.Run.{kept}
use Rattle.code.specs.declared.Shape.{Shape}
use Rattle.code.specs.Shape.{single, shaped, first_of, ranges_due, given, ranges_of, all_ranges, order_of, outside, granted, misfit, counts_of, width_of}
use Rattle.code.specs.Calls.{read_cells, storing, write_cells, refusal, answer, passes, leaves, filled, generation, field_read, field_write, unsound, miscounts, exceeds, count_told, spent, taker, over_range, over_taker, write_refusal, made_at, write_reply, write_leaves}
use Rattle.code.specs.Many.{numbers_most, field_bytes, many_replies, many_cells, many_refusal, made_replies, stop_reply, many_numbers, many_told, many_reply, many_leaves}

-- the answer and the cells: refusal, stopped, field, how many were written, what the refusal carries, their generations and turned counts
abbrev Made : Shape → List ℕ → List ℕ → ℕ → ℕ → ℕ → ℕ → List ℕ → List ℕ → List ℕ → List ℕ → Type 0
Made s numbers cells refused stopped field made carried generations turns after =
    (many_reply s numbers cells ≡ (refused ∷ stopped ∷ field ∷ made ∷ carried) ∷ filled numbers_most generations ∷ filled numbers_most turns ∷ [])
    × (many_leaves s numbers cells ≡ after)

-- nothing carried
abbrev none : List ℕ
none = 0 ∷ 0 ∷ []

-- all written; a stop at a spent field, at a number out of range, at a left-over bit; form 1; at cells that have no number; no numbers; too many
pub many-worked :
    Made (shaped 2 3 4) (3 ∷ 1 ∷ 2 ∷ []) (0x00 ∷ 0x00 ∷ 0x00 ∷ []) 0 0 0 3 none (1 ∷ 1 ∷ 1 ∷ []) (2 ∷ 1 ∷ 1 ∷ []) (0x03 ∷ 0x01 ∷ 0x02 ∷ [])
    × Made (shaped 2 3 4) (1 ∷ 1 ∷ 1 ∷ []) (0x03 ∷ 0x4F ∷ 0x00 ∷ []) 5 1 1 1 none (2 ∷ []) (1 ∷ []) (0x0B ∷ 0x4F ∷ 0x00 ∷ [])
    × Made (shaped 2 3 4) (3 ∷ 4 ∷ 2 ∷ []) (0x00 ∷ 0x00 ∷ 0x00 ∷ []) 6 1 1 1 none (1 ∷ []) (2 ∷ []) (0x03 ∷ 0x00 ∷ 0x00 ∷ [])
    × Made (shaped 2 2 20) (0 ∷ 0 ∷ 0 ∷ []) (0x00 ∷ 0x40 ∷ 0x00 ∷ 0x41 ∷ 0x00 ∷ 0x40 ∷ []) 3 1 1 1 none (2 ∷ []) (4 ∷ [])
    (0xC1 ∷ 0xC0 ∷ 0x00 ∷ 0x41 ∷ 0x00 ∷ 0x40 ∷ [])
    × Made (single 1 2 3 4) (0 ∷ 0 ∷ 0 ∷ []) (0x00 ∷ 0x00 ∷ 0x00 ∷ []) 0 0 0 3 none (1 ∷ 1 ∷ 1 ∷ []) (1 ∷ 1 ∷ 1 ∷ [])
    (0x01 ∷ 0x01 ∷ 0x01 ∷ [])
    × Made (shaped 2 3 4) (1 ∷ 1 ∷ 1 ∷ []) (0x03 ∷ 0x0F ∷ 0x00 ∷ []) 15 1 1 1 (2 ∷ 2 ∷ []) (2 ∷ []) (1 ∷ []) (0x0B ∷ 0x0F ∷ 0x00 ∷ [])
    × Made (shaped 2 3 4) (1 ∷ 1 ∷ 1 ∷ []) (0x03 ∷ 0x43 ∷ 0x00 ∷ []) 16 1 1 1 (2 ∷ 0 ∷ []) (2 ∷ []) (1 ∷ []) (0x0B ∷ 0x43 ∷ 0x00 ∷ [])
    × Made (shaped 2 3 4) [] (0x00 ∷ []) 3 0 0 0 none [] [] (0x00 ∷ [])
    × Made (shaped 2 3 4) [] [] 0 0 0 0 none [] [] []
    × Made (shaped 5 3 4) (replicate 65 0) (0x00 ∷ []) 14 0 0 0 none [] [] (0x00 ∷ [])
    × Made (shaped 5 3 4) (replicate 64 0) (0x00 ∷ []) 1 0 0 0 none [] [] (0x00 ∷ [])
unfolding choose fewer least room deals counts grant written rank digits number laid places deal plain plainly bit_place wit value listed sum group groups sound wit_of byte_of stored ones turned zeros unerased past dealt carriers told pattern read_at read erase erase_by leftmost cleared_by after_by lay after write_at write_on write kept read_cells storing write_cells refusal answer passes leaves filled first_of ranges_due given ranges_of all_ranges order_of outside granted misfit counts_of width_of generation field_read field_write unsound miscounts exceeds count_told spent taker over_range over_taker write_refusal made_at write_reply write_leaves field_bytes many_replies many_cells many_refusal made_replies stop_reply many_numbers many_told many_reply many_leaves
many-worked = ((refl, refl), (refl, refl), (refl, refl), (refl, refl), (refl, refl), (refl, refl), (refl, refl), (refl, refl), (refl, refl), (refl, refl), (refl, refl))
