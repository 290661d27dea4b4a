-- Intel HEX: lines as they are written read back, and the length of a text.
use Prim.Native.Nat.{ℕ, zero, suc, ◌+◌, ◌*◌, ◌-◌, ◌/◌, ◌%◌, ◌≤◌, ◌<◌}
use mathlib.Core.Path.{◌≡◌, refl, ap}
use mathlib.Core.Logic.{inl, inr}
use mathlib.Core.Bool.{true, false}
use mathlib.Core.List.{List, [], ◌∷◌, ◌++◌, append_assoc}
use native.Mathlib.Omega.{arith}
use lib.ListN.{length, take, drop, length-append, length-take, length-drop}
use lib.Seq.{drop_at, take_at}
use lib.Dec.{leb, eqb}
use borrow.Author.Tests.{lt-ltb, le-ltb, le-leb, lt-leb, eq-eqb}
use Rattle.code.specs.Lists.{Below, list_sum}
use Rattle.code.specs.Lists.{ascii}
use Rattle.code.specs.Hex.{hex_digit, hex_digits, sum_byte, hex_line, data_line, data_lines, line_count, end_record, hex_text}
use Rattle.code.specs.Hex.{digit_number, spelled_byte, spelled_bytes, line_bytes, data_count, data_address, line_type, line_data, line_end, behind_bytes}
use Rattle.code.specs.Hex.{next_line, all_spelled, misshapen, wrong_sum, line_refusal, is_end}
use Rattle.code.proofs.ByteLists.{below-append}
use Rattle.code.proofs.Tests.{le-or-lt}
use Rattle.code.proofs.HexLines.{is_false, end-type, shaped-is, line-passes, not-laden, not-displaced}

digit-back : (x : ℕ) → x < 16 → digit_number (hex_digit x) ≡ x
unfolding digit_number hex_digit
digit-back x h = elim (le-or-lt 10 x) [
  | inl l ↦
      let high : leb (55 + x) 57 ≡ false = lt-leb (55 + x) 57 (omega arith) in
      rw (le-ltb x 10 l, le-leb 48 (55 + x) (omega arith), high, le-leb 65 (55 + x) (omega arith), le-leb (55 + x) 70 (omega arith)) (omega arith)
  | inr l ↦ rw (lt-ltb x 10 l, le-leb 48 (48 + x) (omega arith), le-leb (48 + x) 57 (omega arith)) (omega arith)
]

byte-back : (b : ℕ) → b < 256 → spelled_byte (hex_digit (b / 16)) (hex_digit (b % 16)) ≡ b
unfolding spelled_byte
byte-back b h =
    let high = lt-ltb (b / 16) 16 (omega arith) in
    let low = lt-ltb (b % 16) 16 (omega arith) in
    rw (digit-back (b / 16) (omega arith), digit-back (b % 16) (omega arith), high, low) (omega arith)

bytes_back : (bytes rest : List ℕ) → Below 256 bytes → spelled_bytes (length bytes) (hex_digits bytes ++ rest) ≡ bytes
unfolding spelled_bytes hex_digits
bytes_back [] rest u = refl
bytes_back (b ∷ bytes) rest u = cc (byte-back b u.0, bytes_back bytes rest u.1)

pub digits-length : (bytes : List ℕ) → length (hex_digits bytes) ≡ 2 * length bytes
unfolding hex_digits
digits-length [] = refl
digits-length (b ∷ bytes) = omega (arith, digits-length bytes)

below-spelled : (bytes : List ℕ) → Below 256 bytes → all_spelled bytes ≡ true
unfolding all_spelled
below-spelled [] u = refl
below-spelled (b ∷ bytes) u = rw (lt-ltb b 256 u.0, below-spelled bytes u.1)

pub sum-append : (xs ys : List ℕ) → list_sum (xs ++ ys) ≡ list_sum xs + list_sum ys
unfolding list_sum
sum-append [] ys = omega arith
sum-append (x ∷ xs) ys = omega (arith, sum-append xs ys)

-- a line of bytes whose first is five less than their count
module _ (n : ℕ) (more rest : List ℕ) (u : Below 256 (n ∷ more)) (e : length more ≡ 4 + n) where
  abbrev written_line : List ℕ
  written_line = 58 ∷ (hex_digits (n ∷ more) ++ (10 ∷ rest))

  written-bytes : line_bytes written_line ≡ n ∷ more
  unfolding line_bytes hex_digits
  written-bytes =
      let l : 5 + n ≡ length (n ∷ more) = omega arith in
      rw (byte-back n u.0, l) (bytes_back (n ∷ more) (10 ∷ rest) u)

  written_behind : behind_bytes written_line ≡ 10 ∷ rest
  unfolding behind_bytes
  written_behind =
      let l : 1 + 2 * length (n ∷ more) ≡ suc (length (hex_digits (n ∷ more))) = omega (arith, digits-length (n ∷ more)) in
      rw (written-bytes, l) (drop_at (hex_digits (n ∷ more)) (10 ∷ rest) (length (hex_digits (n ∷ more))) refl)

  written_next : next_line written_line ≡ rest
  unfolding next_line line_end
  written_next = rw written_behind

  written-shaped : misshapen written_line ≡ false
  unfolding misshapen line_end
  written-shaped = rw (written_behind, written-bytes, below-spelled (n ∷ more) u)

-- the bytes of a data record before its sum
abbrev headed : ℕ → List ℕ → List ℕ
headed at bytes = length bytes ∷ at / 256 ∷ at % 256 ∷ 0 ∷ bytes

-- a data record, whatever text stands behind it
module _ (at : ℕ) (bytes rest : List ℕ) (u : Below 256 bytes) (few : length bytes < 256) (low : at < 65536) where
  abbrev more : List ℕ
  more = at / 256 ∷ at % 256 ∷ 0 ∷ (bytes ++ (sum_byte (headed at bytes) ∷ []))

  more-below : Below 256 (length bytes ∷ more)
  unfolding sum_byte
  more-below = (few, (omega arith, (omega arith, (omega arith, below-append 256 bytes (sum_byte (headed at bytes) ∷ []) u (omega arith, tt)))))

  more-length : length more ≡ 4 + length bytes
  more-length = omega (arith, length-append bytes (sum_byte (headed at bytes) ∷ []))

  abbrev line : List ℕ
  line = data_line at bytes ++ rest

  line-is : line ≡ 58 ∷ (hex_digits (length bytes ∷ more) ++ (10 ∷ rest))
  unfolding data_line hex_line
  line-is = ap (λ (l : List ℕ). 58 ∷ l) (append_assoc (hex_digits (length bytes ∷ more)) (10 ∷ []) rest)

  line-bytes : line_bytes line ≡ length bytes ∷ more
  line-bytes = rw line-is (written-bytes (length bytes) more rest more-below more-length)

  pub line-next : next_line line ≡ rest
  line-next = rw line-is (written_next (length bytes) more rest more-below more-length)

  line-type : line_type line ≡ 0
  unfolding line_type
  line-type = rw line-bytes

  line-count : data_count line ≡ length bytes
  unfolding data_count
  line-count = rw line-bytes

  line-address : data_address line ≡ at
  unfolding data_address
  line-address = rw line-bytes (omega arith)

  pub line-data : line_data line ≡ bytes
  unfolding line_data
  line-data = rw (line-count, line-bytes) (take_at bytes (sum_byte (headed at bytes) ∷ []) (length bytes) refl)

  line-summed : wrong_sum line ≡ false
  unfolding wrong_sum list_sum sum_byte
  line-summed =
      let e : list_sum (length bytes ∷ more) % 256 ≡ 0 = omega (arith, sum-append bytes (sum_byte (headed at bytes) ∷ [])) in
      rw (line-bytes, e)

  pub line-accepted : at + length bytes ≤ 65536 → line_refusal at line ≡ []
  line-accepted h =
      let shaped = shaped-is line (rw line-is (written-shaped (length bytes) more rest more-below more-length)) in
      let bare = not-laden line (λ k. absurd (omega (arith, line-type))) in
      let placed = not-displaced line at (λ k c. (line-address, omega (arith, line-count))) in
      line-passes at line shaped bare line-summed placed (omega (arith, line-type))

  pub line-open : is_end line ≡ false
  line-open = is_false (is_end line) (λ e. absurd (omega (arith, line-type, end-type line e)))

pub line-length : (at : ℕ) (bytes : List ℕ) → length (data_line at bytes) ≡ 12 + 2 * length bytes
unfolding data_line hex_line
line-length at bytes =
    let all : List ℕ = headed at bytes ++ (sum_byte (headed at bytes) ∷ []) in
    omega (arith, length-append (hex_digits all) (10 ∷ []), digits-length all, length-append (headed at bytes) (sum_byte (headed at bytes) ∷ []))

pub lines-length : (n at : ℕ) (bytes : List ℕ) → line_count (length bytes) ≡ n → length (data_lines n at bytes) ≡ 12 * n + 2 * length bytes
unfolding data_lines
lines-length zero at bytes e = omega arith
lines-length (suc n) at bytes e =
    omega (
      arith,
      length-append (data_line at (take 16 bytes)) (data_lines n (at + 16) (drop 16 bytes)),
      line-length at (take 16 bytes),
      lines-length n (at + 16) (drop 16 bytes) (omega (arith, length-drop 16 bytes)),
      length-take 16 bytes,
      length-drop 16 bytes,
    )

-- twelve characters for each line and for the end, and two for each byte
pub text-length : (bytes : List ℕ) → length (hex_text bytes) ≡ 12 * line_count (length bytes) + 2 * length bytes + 12
unfolding hex_text end_record ascii
text-length bytes =
    let lines : List ℕ = data_lines (line_count (length bytes)) 0 bytes in
    omega (arith, length-append lines end_record, lines-length (line_count (length bytes)) 0 bytes refl)
