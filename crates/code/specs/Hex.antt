-- Document 02, §1, "Programming bench files" (RULES 11): Intel HEX of bytes, and the bytes of such a text. A text is the numbers of its characters.
use Rattle.std.specs.Prelude.{ℕ, zero, suc, ◌+◌, ◌*◌, ◌-◌, ◌/◌, ◌%◌, Bool, true, false, cond, not, ◌&&◌, List, [], ◌∷◌, ◌++◌, leb, ltb, eqb, length, get_or, take, drop}
use Rattle.code.specs.Lists.{list_sum, same}
use Rattle.code.specs.Calls.{refusal, answer, leaves}
use Rattle.code.specs.Lists.{ascii}

-- "upper-case digits": the character of a number below 16
unfoldable pub hex_digit : ℕ → ℕ
hex_digit x = cond (ltb x 10) (48 + x) (55 + x)

-- bytes as "digits", two for each, the high one first
unfoldable pub hex_digits : List ℕ → List ℕ
hex_digits [] = []
hex_digits (b ∷ bytes) = hex_digit (b / 16) ∷ hex_digit (b % 16) ∷ hex_digits bytes

-- the "sum" of a line: the byte that brings its bytes to a multiple of 256
unfoldable pub sum_byte : List ℕ → ℕ
sum_byte bytes = (256 - list_sum bytes % 256) % 256

-- a line: a colon, the bytes and their sum as digits, a line feed
unfoldable pub hex_line : List ℕ → List ℕ
hex_line bytes = 58 ∷ (hex_digits (bytes ++ (sum_byte bytes ∷ [])) ++ (10 ∷ []))

-- "data records (type 00)": count, address, type, data
unfoldable pub data_line : ℕ → List ℕ → List ℕ
data_line at bytes = hex_line (length bytes ∷ at / 256 ∷ at % 256 ∷ 0 ∷ bytes)

-- "16 data bytes a line on export but for the last": so many lines from an address on
unfoldable pub data_lines : ℕ → ℕ → List ℕ → List ℕ
data_lines zero at bytes = []
data_lines (suc n) at bytes = data_line at (take 16 bytes) ++ data_lines n (at + 16) (drop 16 bytes)

-- the lines that so many bytes take, 16 to each
abbrev pub line_count : ℕ → ℕ
line_count n = (n + 15) / 16

-- "The end record is written as :00000001FF with a line feed"
unfoldable pub end_record : List ℕ
end_record = ascii ":00000001FF\n"

-- "data records (type 00) and the end record", "addresses from 0"
unfoldable pub hex_text : List ℕ → List ℕ
hex_text bytes = data_lines (line_count (length bytes)) 0 bytes ++ end_record

-- 02, §1; RULES 12: "8 for exporting more than 65,536 bytes; then 9 where the output is short"
unfoldable pub hex_export_refusal : List ℕ → List ℕ → List ℕ
hex_export_refusal bytes out = refusal ((8 ∷ [], ltb 65536 (length bytes)) ∷ (9 ∷ [], ltb (length out) (length (hex_text bytes))) ∷ [])

-- 01, Refusal numbers, of an export; RULES 13: "answers its length"
unfoldable pub hex_export_reply : List ℕ → List ℕ → List ℕ
hex_export_reply bytes out = answer (hex_export_refusal bytes out) (length (hex_text bytes) ∷ [])

-- 01, Refusal numbers, of an export; RULES 13: stored "at the front of the output, leaves later bytes unchanged"
unfoldable pub hex_export_leaves : List ℕ → List ℕ → List ℕ
hex_export_leaves bytes out = let text = hex_text bytes in leaves (hex_export_refusal bytes out) (text ++ drop (length text) out) out

-- "either letter case": the number of a digit, 16 for any other character
unfoldable pub digit_number : ℕ → ℕ
digit_number c =
    cond (leb 48 c && leb c 57) (c - 48)
    (cond (leb 65 c && leb c 70) (c - 55)
    (cond (leb 97 c && leb c 102) (c - 87) 16))

-- the byte that two digits spell, 256 where one of them is none
unfoldable pub spelled_byte : ℕ → ℕ → ℕ
spelled_byte high low = cond (ltb (digit_number high) 16 && ltb (digit_number low) 16) (16 * digit_number high + digit_number low) 256

-- the bytes that the first characters of a text spell, so many
unfoldable pub spelled_bytes : ℕ → List ℕ → List ℕ
spelled_bytes zero text = []
spelled_bytes (suc n) text = spelled_byte (get_or text 0 0) (get_or text 1 0) ∷ spelled_bytes n (drop 2 text)

-- "Import takes 0 to 255 bytes a line": behind the colon come the count, two bytes of address, the type, so many bytes of data, and the sum
unfoldable pub line_bytes : List ℕ → List ℕ
line_bytes line = spelled_bytes (5 + spelled_byte (get_or line 1 0) (get_or line 2 0)) (drop 1 line)

-- the count of data bytes that a line names
unfoldable pub data_count : List ℕ → ℕ
data_count line = get_or (line_bytes line) 0 0

-- the "address" of its first data byte
unfoldable pub data_address : List ℕ → ℕ
data_address line = 256 * get_or (line_bytes line) 1 0 + get_or (line_bytes line) 2 0

-- its "type"
unfoldable pub line_type : List ℕ → ℕ
line_type line = get_or (line_bytes line) 3 0

-- its "data"
unfoldable pub line_data : List ℕ → List ℕ
line_data line = take (data_count line) (drop 4 (line_bytes line))

-- "LF or CR LF after each line": the count of these characters at the front of a text, 0 where neither stands there
unfoldable pub line_end : List ℕ → ℕ
line_end text = cond (eqb (get_or text 0 0) 10) 1 (cond (eqb (get_or text 0 0) 13 && eqb (get_or text 1 0) 10) 2 0)

-- the text behind a line's digits
unfoldable pub behind_bytes : List ℕ → List ℕ
behind_bytes line = drop (1 + 2 * length (line_bytes line)) line

-- the text behind a line, its end included
unfoldable pub next_line : List ℕ → List ℕ
next_line line = drop (line_end (behind_bytes line)) (behind_bytes line)

-- digits spell every byte
unfoldable pub all_spelled : List ℕ → Bool
all_spelled [] = true
all_spelled (b ∷ bytes) = ltb b 256 && all_spelled bytes

-- "20 bad line shape"
unfoldable pub misshapen : List ℕ → Bool
misshapen line = not (eqb (get_or line 0 0) 58 && all_spelled (line_bytes line) && ltb 0 (line_end (behind_bytes line)))

-- "or a type 01 with data or address"
unfoldable pub laden_end : List ℕ → Bool
laden_end line = eqb (line_type line) 1 && not (eqb (data_count line) 0 && eqb (data_address line) 0)

-- "21 bad sum"
unfoldable pub wrong_sum : List ℕ → Bool
wrong_sum line = not (eqb (list_sum (line_bytes line) % 256) 0)

-- "22 data outside those addresses", which "start at 0 and run on without a gap to FFFF at most", after so many bytes
unfoldable pub displaced : ℕ → List ℕ → Bool
displaced n line = eqb (line_type line) 0 && ltb 0 (data_count line) && not (eqb (data_address line) n && leb (n + data_count line) 65536)

-- "tested line by line in that order": "23 missing end" where no text is left, 20, 21, 22, "24 any other type"
unfoldable pub line_refusal : ℕ → List ℕ → List ℕ
line_refusal n line = refusal (
    (23 ∷ [], eqb (length line) 0) ∷
    (20 ∷ [], misshapen line) ∷
    (20 ∷ [], laden_end line) ∷
    (21 ∷ [], wrong_sum line) ∷
    (22 ∷ [], displaced n line) ∷
    (24 ∷ [], ltb 1 (line_type line)) ∷ [])

-- a line is "the end record" where it spells the same bytes, in "either letter case"
unfoldable pub is_end : List ℕ → Bool
is_end line = same (line_bytes line) (line_bytes end_record)

-- what an import comes to: the bytes, or the refusal of a line
pub data Import : Type 0 where
  faulty : List ℕ → Import
  gives : List ℕ → Import

-- "24 .. any text after the end, its shape untested"
unfoldable pub closed : List ℕ → List ℕ → Import
closed done text = cond (eqb (length text) 0) (gives done) (faulty (24 ∷ []))

-- "tested line by line", after the bytes of earlier lines: a data record adds its bytes, the end record closes
unfoldable pub import_from : ℕ → List ℕ → List ℕ → Import
import_from zero done text = faulty (23 ∷ [])
import_from (suc fuel) done text = elim (line_refusal (length done) text) [
  | [] ↦ elim (is_end text) [ true ↦ closed done (next_line text) | false ↦ import_from fuel (done ++ line_data text) (next_line text) ]
  | k ∷ carried ↦ faulty (k ∷ carried)
]

-- the import of a text; a line that passes has characters, so that the fuel is enough
unfoldable pub hex_import : List ℕ → Import
hex_import text = import_from (suc (length text)) [] text

-- the bytes that an import gives
unfoldable pub bytes_of : Import → List ℕ
bytes_of (faulty k) = []
bytes_of (gives bytes) = bytes

-- 02, §1; RULES 12: 20 to 24 of a line, "then 9 where the output is short"
unfoldable pub import_refusal : Import → List ℕ → List ℕ
import_refusal (faulty k) out = k
import_refusal (gives bytes) out = refusal ((9 ∷ [], ltb (length out) (length bytes)) ∷ [])

-- RULES 13: the call's answer: the length of what is stored
unfoldable pub hex_import_reply : List ℕ → List ℕ → List ℕ
hex_import_reply text out = answer (import_refusal (hex_import text) out) (length (bytes_of (hex_import text)) ∷ [])

-- RULES 13: the output afterwards, as after an export
unfoldable pub hex_import_leaves : List ℕ → List ℕ → List ℕ
hex_import_leaves text out = let made = bytes_of (hex_import text) in leaves (import_refusal (hex_import text) out) (made ++ drop (length made) out) out
