-- The values of document 02, §9, computed: the call on bytes, its reply and the cells that it leaves.
use mathlib.Core.Path.{◌≡◌, refl}
use mathlib.Core.List.{[], ◌∷◌}
use lib.ListN.{replicate}
use Rattle.code.specs.Count.{choose, fewer, least}
use Rattle.code.specs.Layout.{counts, grant}
use Rattle.code.specs.Deal.{written, rank, digits, number, laid, places, deal, plain, plainly}
use Rattle.code.specs.Cells.{bit_place, wit, value, listed, sum, group, groups, sound, wit_of, byte_of, stored, turned}
use Rattle.code.specs.Code.{deals, dealt, told, pattern, room}
use Rattle.code.specs.Field.{zeros, unerased, past, carriers, has_reading, read_at, read, lay, erase_by, leftmost, cleared_by, after_by, after, write_at}
use Rattle.code.specs.declared.Shape.{Shape}
use Rattle.code.specs.Shape.{single, shaped, first_of, ranges_due, given, ranges_of, all_ranges, order_of, outside, granted, misfit, counts_of, width_of}
use Rattle.code.specs.Run.{kept}
use Rattle.code.specs.Calls.{filled, refusal, answer, leaves, storing, read_cells, field_read, unsound, over_range, made_at}
use Rattle.code.specs.Resume.{first_within, resume_place, resume, resume_cells, freshly, places_from, fresh_groups, exhausted, over_found, resume_refusal, field_resume, resume_reply, resume_leaves, bits_at, resume_fields}

abbrev ranged : Shape
ranged = record { form = 2; m = 2; t = 3; count = 3; v = 20 ∷ 4 ∷ 2 ∷ replicate 13 0 }

-- accepted: generation, turned, how many groups, and these; behind it the cells
pub resumed :
    (resume_reply (shaped 2 2 20) 19 (0xC0 ∷ 0xC0 ∷ []) ≡ 0 ∷ 2 ∷ 2 ∷ 0 ∷ []) × (resume_leaves (shaped 2 2 20) 19 (0xC0 ∷ 0xC0 ∷ []) ≡ 0xE2 ∷ 0xC0 ∷ [])
    × (resume_reply (shaped 2 3 4) 2 (0x04 ∷ []) ≡ 0 ∷ 2 ∷ 2 ∷ 1 ∷ 2 ∷ []) × (resume_leaves (shaped 2 3 4) 2 (0x04 ∷ []) ≡ 0x1C ∷ [])
    × (resume_reply (shaped 2 3 4) 2 (0x0F ∷ []) ≡ 0 ∷ 3 ∷ 1 ∷ 0 ∷ []) × (resume_leaves (shaped 2 3 4) 2 (0x0F ∷ []) ≡ 0x4F ∷ [])
    × (resume_reply (shaped 2 2 20) 0 (0x02 ∷ 0x80 ∷ []) ≡ 0 ∷ 2 ∷ 3 ∷ 2 ∷ 3 ∷ 4 ∷ []) × (resume_leaves (shaped 2 2 20) 0 (0x02 ∷ 0x80 ∷ []) ≡ 0x07 ∷ 0xC0 ∷ [])
    × (resume_reply ranged 1 (0x1B ∷ []) ≡ 0 ∷ 3 ∷ 3 ∷ 2 ∷ 1 ∷ 2 ∷ []) × (resume_leaves ranged 1 (0x1B ∷ []) ≡ 0xBF ∷ [])
    × (resume_fields (0 ∷ 2 ∷ 3 ∷ 4 ∷ 3 ∷ 4 ∷ 64 ∷ 255 ∷ []) ≡ 0 ∷ 2 ∷ 3 ∷ 4 ∷ 24 ∷ 1 ∷ 0 ∷ 0x8000000000000000 ∷ [])
unfolding choose fewer least room counts grant written rank digits number laid places deal plain plainly bit_place wit value listed sum group groups sound wit_of byte_of stored turned deals dealt told pattern zeros unerased past carriers has_reading read_at read lay erase_by leftmost cleared_by after_by after write_at first_of ranges_due given ranges_of all_ranges order_of outside granted misfit counts_of width_of kept filled refusal answer leaves storing read_cells field_read unsound over_range made_at first_within resume_place resume resume_cells freshly places_from fresh_groups exhausted over_found resume_refusal field_resume resume_reply resume_leaves bits_at resume_fields
resumed = (refl, refl, refl, refl, refl, refl, refl, refl, refl, refl, refl)

-- refused, each by the first test that holds
pub refused :
    (resume_reply (shaped 2 3 4) 2 (0xFF ∷ []) ≡ 5 ∷ []) × (resume_reply (shaped 2 3 4) 4 (0xFF ∷ []) ≡ 6 ∷ []) × (resume_reply (single 1 2 3 4) 2 (0x00 ∷ []) ≡ 17 ∷ [])
    × (resume_reply (shaped 2 3 4) 2 (0x4F ∷ []) ≡ 17 ∷ []) × (resume_reply ranged 99 (0x0E ∷ []) ≡ 17 ∷ []) × (resume_reply ranged 2 (0x1B ∷ []) ≡ 6 ∷ [])
    × (resume_reply (shaped 2 3 4) 4 (0x4F ∷ []) ≡ 6 ∷ []) × (resume_reply (shaped 2 3 4) 4 (0x00 ∷ 0x00 ∷ []) ≡ 3 ∷ []) × (resume_reply (shaped 2 1 4) 0 [] ≡ 1 ∷ []) × (resume_leaves (shaped 2 3 4) 2 (0xFF ∷ []) ≡ 0xFF ∷ [])
unfolding choose fewer least room counts grant written rank digits number laid places deal plain plainly bit_place wit value listed sum group groups sound wit_of byte_of stored turned deals dealt told pattern zeros unerased past carriers has_reading read_at read lay erase_by leftmost cleared_by after_by after write_at first_of ranges_due given ranges_of all_ranges order_of outside granted misfit counts_of width_of kept filled refusal answer leaves storing read_cells field_read unsound over_range made_at first_within resume_place resume resume_cells freshly places_from fresh_groups exhausted over_found resume_refusal field_resume resume_reply resume_leaves bits_at resume_fields
refused = (refl, refl, refl, refl, refl, refl, refl, refl, refl, refl)
