-- The values of document 02, §8, computed: of groups, and of the call on bytes.
use mathlib.Core.Path.{◌≡◌, refl}
use mathlib.Core.Bool.{true, false}
use mathlib.Core.List.{[], ◌∷◌}
use lib.ListN.{replicate}
use Rattle.code.specs.Count.{choose, fewer, least}
use Rattle.code.specs.Layout.{counts, grant}
use Rattle.code.specs.Deal.{written, rank, digits, number, laid, places, deal, plain, plainly}
use Rattle.code.specs.Cells.{bit_place, wit, value, listed, group, groups, sound}
use Rattle.code.specs.Code.{Code, deals, dealt, told, pattern, room}
use Rattle.code.specs.Field.{zeros, unerased, past, carriers, read_at, read, lay, erase_by, leftmost, cleared_by, after_by}
use Rattle.code.proofs.Groups.{erase}
use Rattle.code.specs.declared.Shape.{Shape}
use Rattle.code.specs.Shape.{single, shaped, first_of, ranges_due, given, ranges_of, all_ranges, order_of, outside, granted, misfit, counts_of, width_of, code_of}
use Rattle.code.specs.Calls.{filled, refusal, answer, read_cells, field_read, unsound, numberless, miscounts, exceeds, count_told, generation}
use Rattle.code.specs.Judge.{right, wrong, wipes, wiped, read_as, judge_at, judge_on, judges}
use Rattle.code.specs.JudgeCall.{judge_cells, judge_refusal, verdict_fields, judge_reply}

-- the codes of form 0, m 2, t 2, v 20 and of form 0, m 2, t 3, v 4
abbrev twenty : Code
twenty = record { order = 0; m = 2; first = 0; counts = 5 ∷ 3 ∷ []; ranges = 20 ∷ 20 ∷ [] }

abbrev four : Code
four = record { order = 0; m = 2; first = 0; counts = 4 ∷ 3 ∷ 2 ∷ []; ranges = 4 ∷ 4 ∷ 4 ∷ [] }

pub coded : (code_of (shaped 2 2 20) ≡ twenty) × (code_of (shaped 2 3 4) ≡ four)
unfolding choose fewer least room deals counts grant first_of ranges_of granted counts_of order_of
coded = (refl, refl)

-- on groups: document 01's choice and another one; blank to blank; a nonzero group left unerased; a generation left out; spent cells
pub on-groups :
    (judges twenty (0 ∷ 0 ∷ 0 ∷ 0 ∷ 1 ∷ []) (3 ∷ 0 ∷ 0 ∷ 1 ∷ 3 ∷ []) ≡ right 0)
    × (after_by twenty (leftmost 1 (0 ∷ 0 ∷ 0 ∷ 0 ∷ 1 ∷ [])) 1 0 (0 ∷ 0 ∷ 0 ∷ 0 ∷ 1 ∷ []) ≡ 3 ∷ 0 ∷ 0 ∷ 1 ∷ 3 ∷ [])
    × (judges twenty (0 ∷ 0 ∷ 0 ∷ 0 ∷ 1 ∷ []) (0 ∷ 1 ∷ 3 ∷ 1 ∷ 3 ∷ []) ≡ right 3)
    × (after_by twenty (false ∷ false ∷ true ∷ []) 1 3 (0 ∷ 0 ∷ 0 ∷ 0 ∷ 1 ∷ []) ≡ 0 ∷ 1 ∷ 3 ∷ 1 ∷ 3 ∷ [])
    × (judges four (replicate 4 0) (replicate 4 0) ≡ right 0)
    × (judges four (0 ∷ 0 ∷ 0 ∷ 3 ∷ []) (0 ∷ 0 ∷ 2 ∷ 3 ∷ []) ≡ right 1)
    × (judges four (0 ∷ 0 ∷ 0 ∷ 1 ∷ []) (3 ∷ 0 ∷ 0 ∷ 1 ∷ []) ≡ wrong)
    × (judges four (0 ∷ 0 ∷ 0 ∷ 3 ∷ []) (1 ∷ 0 ∷ 3 ∷ 3 ∷ []) ≡ wrong)
    × (judges four (1 ∷ 0 ∷ 3 ∷ 3 ∷ []) (1 ∷ 0 ∷ 3 ∷ 3 ∷ []) ≡ wrong)
unfolding choose fewer least room counts grant written rank digits number laid places deal plain plainly bit_place wit value listed group groups sound deals dealt told pattern zeros unerased past carriers read_at read erase lay first_of ranges_due given ranges_of all_ranges order_of outside granted misfit counts_of width_of filled refusal answer read_cells field_read unsound numberless miscounts exceeds count_told generation erase_by leftmost cleared_by after_by wipes wiped read_as judge_at judge_on judges judge_cells judge_refusal verdict_fields judge_reply
on-groups = (refl, refl, refl, refl, refl, refl, refl, refl, refl)

abbrev ranged : Shape
ranged = record { form = 2; m = 2; t = 3; count = 3; v = 20 ∷ 4 ∷ 2 ∷ replicate 13 0 }

-- the call: yes is 0, 1 and the number, no is 0, 0, 0
pub judged-calls :
    (judge_reply (shaped 2 2 20) (0x00 ∷ 0x40 ∷ []) (0xC1 ∷ 0xC0 ∷ []) ≡ 0 ∷ 1 ∷ 0 ∷ [])
    × (judge_reply (shaped 2 2 20) (0x00 ∷ 0x40 ∷ []) (0x1D ∷ 0xC0 ∷ []) ≡ 0 ∷ 1 ∷ 3 ∷ [])
    × (judge_reply (shaped 2 2 20) (0x00 ∷ 0x40 ∷ []) (0xC1 ∷ 0x40 ∷ []) ≡ 15 ∷ 2 ∷ 4 ∷ [])
    × (judge_reply (shaped 2 3 4) (0x00 ∷ []) (0x03 ∷ []) ≡ 0 ∷ 1 ∷ 3 ∷ [])
    × (judge_reply (single 1 2 3 4) (0x00 ∷ []) (0x00 ∷ []) ≡ 11 ∷ [])
    × (judge_reply (shaped 2 3 4) (0x03 ∷ []) (0x00 ∷ []) ≡ 0 ∷ 0 ∷ 0 ∷ [])
    × (judge_reply (shaped 2 3 4) (0x03 ∷ []) (0x0B ∷ []) ≡ 0 ∷ 1 ∷ 1 ∷ [])
    × (judge_reply (shaped 2 3 4) (0x03 ∷ []) (0x4F ∷ []) ≡ 0 ∷ 0 ∷ 0 ∷ [])
    × (judge_reply (shaped 2 3 4) (0x01 ∷ []) (0xC1 ∷ []) ≡ 0 ∷ 0 ∷ 0 ∷ [])
    × (judge_reply (shaped 2 3 4) (0x4F ∷ []) (0x4F ∷ []) ≡ 0 ∷ 0 ∷ 0 ∷ [])
    × (judge_reply (shaped 2 3 4) (0x43 ∷ []) (0x00 ∷ 0x00 ∷ []) ≡ 16 ∷ 2 ∷ [])
    × (judge_reply (shaped 2 3 4) (0x03 ∷ []) (0x43 ∷ []) ≡ 16 ∷ 2 ∷ [])
    × (judge_reply ranged (0x0E ∷ []) (0x8F ∷ []) ≡ 0 ∷ 1 ∷ 3 ∷ [])
    × (judge_reply (shaped 2 3 4) (0x4F ∷ []) (0x00 ∷ 0x00 ∷ []) ≡ 3 ∷ [])
    × (judge_reply (shaped 2 1 4) [] [] ≡ 1 ∷ [])
unfolding choose fewer least room counts grant written rank digits number laid places deal plain plainly bit_place wit value listed group groups sound deals dealt told pattern zeros unerased past carriers read_at read erase lay first_of ranges_due given ranges_of all_ranges order_of outside granted misfit counts_of width_of filled refusal answer read_cells field_read unsound numberless miscounts exceeds count_told generation erase_by leftmost cleared_by after_by wipes wiped read_as judge_at judge_on judges judge_cells judge_refusal verdict_fields judge_reply
judged-calls = (refl, refl, refl, refl, refl, refl, refl, refl, refl, refl, refl, refl, refl, refl, refl)
