-- Document 02, §1: texts and bytes computed from the definitions, the open points of docs/changes/01.md among them.
use Prim.Native.Nat.{ℕ}
use mathlib.Core.Path.{◌≡◌, refl}
use mathlib.Core.List.{List, [], ◌∷◌}
use lib.ListN.{replicate}
use Rattle.code.specs.Calls.{refusal, answer, leaves}
use Rattle.code.specs.Lists.{ascii}
use Rattle.code.specs.Hex.{hex_digit, hex_digits, sum_byte, hex_line, data_line, data_lines, end_record, hex_text}
use Rattle.code.specs.Hex.{hex_export_refusal, hex_export_reply, hex_export_leaves, digit_number, spelled_byte, spelled_bytes, line_bytes}
use Rattle.code.specs.Hex.{data_count, data_address, line_type, line_data, line_end, behind_bytes, next_line, all_spelled, misshapen, laden_end, wrong_sum}
use Rattle.code.specs.Lists.{same, list_sum}
use Rattle.code.specs.Hex.{displaced, line_refusal, is_end, gives, closed, import_from, hex_import, bytes_of, import_refusal, hex_import_reply}
use Rattle.code.specs.Hex.{hex_import_leaves}

-- bytes 0 to 16
abbrev seventeen : List ℕ
seventeen = 0 ∷ 1 ∷ 2 ∷ 3 ∷ 4 ∷ 5 ∷ 6 ∷ 7 ∷ 8 ∷ 9 ∷ 10 ∷ 11 ∷ 12 ∷ 13 ∷ 14 ∷ 15 ∷ 16 ∷ []

pub exported :
    (hex_text [] ≡ ascii ":00000001FF\n")
    × (hex_text seventeen ≡ ascii ":10000000000102030405060708090A0B0C0D0E0F78\n:0100100010DF\n:00000001FF\n")
    × (hex_export_reply [] (replicate 12 0) ≡ 0 ∷ 12 ∷ [])
    × (hex_export_reply seventeen (replicate 100 0) ≡ 0 ∷ 70 ∷ [])
    × (hex_export_reply (0x4F ∷ []) (replicate 25 0) ≡ 9 ∷ [])
    × (hex_export_leaves (0x4F ∷ []) (7 ∷ []) ≡ 7 ∷ [])
    × (hex_export_leaves [] (replicate 13 7) ≡ ascii ":00000001FF\n\u{7}")
unfolding ascii refusal answer leaves hex_digit hex_digits list_sum sum_byte hex_line data_line data_lines end_record hex_text hex_export_refusal hex_export_reply hex_export_leaves
exported = (refl, refl, refl, refl, refl, refl, refl)

-- an import's reply with room for 300 bytes
abbrev imported : List ℕ → List ℕ
imported text = hex_import_reply text (replicate 300 0)

-- bytes of several lines, letters of either case, both line ends, no bytes at any address
pub accepted :
    (hex_import (ascii ":0100000001FE\n:020001000203F8\n:00000001FF\n") ≡ gives (1 ∷ 2 ∷ 3 ∷ []))
    × (imported (ascii ":00000001FF\n") ≡ 0 ∷ 0 ∷ [])
    × (imported (ascii ":00000001fF\r\n") ≡ 0 ∷ 0 ∷ [])
    × (imported (ascii ":00123400ba\n:010000004fB0\r\n:00000001ff\n") ≡ 0 ∷ 1 ∷ [])
    × (hex_import_leaves (ascii ":020000004F505F\n:00000001FF\n") (7 ∷ 8 ∷ 9 ∷ []) ≡ 0x4F ∷ 0x50 ∷ 9 ∷ [])
unfolding ascii refusal answer leaves digit_number spelled_byte spelled_bytes line_bytes data_count data_address line_type line_data line_end behind_bytes next_line all_spelled misshapen laden_end wrong_sum displaced line_refusal same is_end closed import_from hex_import bytes_of import_refusal hex_import_reply hex_import_leaves list_sum end_record
accepted = (refl, refl, refl, refl, refl)

-- shape: no line feed, a lone carriage return, two of them, an empty line, a blank, a count above the data; a type 01 with data or an address
pub shapes :
    (imported (ascii ":00000001FF") ≡ 20 ∷ [])
    × (imported (ascii ":00000001FF\r") ≡ 20 ∷ [])
    × (imported (ascii ":00000001FF\r\r\n") ≡ 20 ∷ [])
    × (imported (ascii "\n:00000001FF\n") ≡ 20 ∷ [])
    × (imported (ascii " :00000001FF\n") ≡ 20 ∷ [])
    × (imported (ascii ":0200000001FD\n") ≡ 20 ∷ [])
    × (imported (ascii ":00000101FE\n") ≡ 20 ∷ [])
    × (imported (ascii ":0100000141BD\n") ≡ 20 ∷ [])
    × (imported (ascii ":0100000141BE\n") ≡ 20 ∷ [])
unfolding ascii refusal answer leaves digit_number spelled_byte spelled_bytes line_bytes data_count data_address line_type line_data line_end behind_bytes next_line all_spelled misshapen laden_end wrong_sum displaced line_refusal same is_end closed import_from hex_import bytes_of import_refusal hex_import_reply list_sum end_record
shapes = (refl, refl, refl, refl, refl, refl, refl, refl, refl)

-- sums; addresses; an end that is missing; other types and text behind the end; a short output
pub others :
    (imported (ascii ":00000001FE\n") ≡ 21 ∷ [])
    × (imported (ascii ":0200000212340A\n:00000001FF\n") ≡ 21 ∷ [])
    × (imported (ascii ":0100010001FD\n:00000001FF\n") ≡ 22 ∷ [])
    × (imported (ascii ":020000000102FB\n:0100010003FB\n:00000001FF\n") ≡ 22 ∷ [])
    × (imported [] ≡ 23 ∷ [])
    × (imported (ascii ":010000004FB0\n") ≡ 23 ∷ [])
    × (imported (ascii ":021234040000B4\n") ≡ 24 ∷ [])
    × (imported (ascii ":010000004FB0\n:021234040000B4\n:00000001FF\n") ≡ 24 ∷ [])
    × (imported (ascii ":00000001FF\n\n") ≡ 24 ∷ [])
    × (imported (ascii ":00000001FF\nno line at all") ≡ 24 ∷ [])
    × (hex_import_reply (ascii ":020000004F505F\n:00000001FF\n") (7 ∷ []) ≡ 9 ∷ [])
unfolding ascii refusal answer leaves digit_number spelled_byte spelled_bytes line_bytes data_count data_address line_type line_data line_end behind_bytes next_line all_spelled misshapen laden_end wrong_sum displaced line_refusal same is_end closed import_from hex_import bytes_of import_refusal hex_import_reply list_sum end_record
others = (refl, refl, refl, refl, refl, refl, refl, refl, refl, refl, refl)
