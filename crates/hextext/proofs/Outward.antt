-- Laws of Intel HEX stored piece by piece.
use mathlib.Core.Path.{◌≡◌, refl, sym, ap, ◌∙◌}
use mathlib.Core.Logic.{inl, inr}
use mathlib.Core.List.{List, [], ◌∷◌, ◌++◌, append_assoc}
use Rattle.std.proofs.Common.{sum, Fits, w8, min}
use Rattle.std.proofs.lemmas.List.Sums.{sum_by-cons}
use Prim.Native.Nat.{ℕ, suc, ◌+◌, ◌*◌, ◌-◌, ◌/◌, ◌%◌, ◌≤◌, ◌<◌}
use native.Mathlib.Omega.{arith}
use native.Mathlib.Nat.{sub-zero}
use native.Mathlib.Numerals.{add-one}
use lib.ListN.{length, get_or, take, drop, length-take, length-drop, length-append, drop_of_length-le}
use lib.Seq.{take-suc, take_all, drop-drop, take-append_seam, drop-append_seam}
use Rattle.code.specs.Hex.{hex_digit, hex_digits, sum_byte, hex_line, data_line, data_lines, line_count, end_record, hex_text}
use Rattle.code.specs.Lists.{list_sum}
use Rattle.code.proofs.Tests.{le-or-lt}
use Rattle.code.proofs.HexText.{sum-append, lines-length}
use Rattle.code.proofs.HexCalls.{HexExports, export-stored}
use Rattle.storing.specs.Put.{Put}
use Rattle.storing.proofs.Put.{put_then, put-pastes, Storing, storing-begin, storing-put, storing-end}

digits_append : (xs ys : List ℕ) → hex_digits (xs ++ ys) ≡ hex_digits xs ++ hex_digits ys
unfolding hex_digits
digits_append [] ys = refl
digits_append (x ∷ xs) ys = ap (λ (r : List ℕ). hex_digit (x / 16) ∷ hex_digit (x % 16) ∷ r) (digits_append xs ys)

pub digits-next : (bytes : List ℕ) (i : ℕ) → i < length bytes → hex_digits (take (i + 1) bytes) ≡ hex_digits (take i bytes) ++ hex_digits (get_or bytes i 0 ∷ [])
digits-next bytes i h = rw (add-one i, take-suc bytes i 0 h) (digits_append (take i bytes) (get_or bytes i 0 ∷ []))

-- bytes added up in Rust's way
pub sum-listed : (bytes : List ℕ) → sum bytes ≡ list_sum bytes
unfolding list_sum
sum-listed [] = refl
sum-listed (x ∷ bytes) = sum_by-cons (λ n. n) x bytes ∙ ap (λ n. x + n) (sum-listed bytes)

pub sum-most : (bytes : List ℕ) → ((i : ℕ) → Fits w8 (get_or bytes i 0)) → list_sum bytes ≤ 255 * length bytes
unfolding list_sum
sum-most [] h = omega arith
sum-most (x ∷ bytes) h = omega (arith, h 0, sum-most bytes (λ i. h (suc i)))

pub sum-next : (bytes : List ℕ) (i : ℕ) → i < length bytes → list_sum (take (i + 1) bytes) ≡ list_sum (take i bytes) + get_or bytes i 0
unfolding list_sum
sum-next bytes i h = rw (add-one i, take-suc bytes i 0 h) (omega (arith, sum-append (take i bytes) (get_or bytes i 0 ∷ [])))

-- a data record piece by piece
pub line-splits : (at : ℕ) (bytes : List ℕ) (sum : ℕ) → let head : List ℕ = length bytes ∷ at / 256 ∷ at % 256 ∷ 0 ∷ [] in
    sum ≡ (256 - (list_sum head + list_sum bytes) % 256) % 256 →
    data_line at bytes ≡ ((((58 ∷ []) ++ hex_digits head) ++ hex_digits bytes) ++ hex_digits (sum ∷ [])) ++ (10 ∷ [])
unfolding data_line hex_line sum_byte
line-splits at bytes sum e =
    let head : List ℕ = length bytes ∷ at / 256 ∷ at % 256 ∷ 0 ∷ [] in
    rw (sum-append head bytes, ← e, digits_append (head ++ bytes) (sum ∷ []), digits_append head bytes)
    (simp append_assoc)

-- what a chunk of at most 16 bytes is, and what it leaves
chunk-is : (bytes line rest : List ℕ) → bytes ≡ line ++ rest → length line ≡ min 16 (length bytes) → (line ≡ take 16 bytes) × (rest ≡ drop 16 bytes)
chunk-is bytes line rest e l =
    let all : length bytes ≡ length line + length rest = ap length e ∙ length-append line rest in
    elim (le-or-lt 16 (length bytes)) [
      | inl k ↦
          let n : 16 ≡ length line = omega arith in
          (rw (n, e) (sym (take-append_seam line rest)), rw (n, e) (sym (drop-append_seam line rest)))
      | inr k ↦
          let n : length bytes ≡ length line = omega arith in
          let front : take (length line) bytes ≡ line = rw e (take-append_seam line rest) in
          let back : drop (length line) bytes ≡ rest = rw e (drop-append_seam line rest) in (
            sym front ∙ take_all (length line) bytes (omega arith) ∙ sym (take_all 16 bytes (omega arith)),
            sym back ∙ drop_of_length-le bytes {i = length line} (omega arith) ∙ sym (drop_of_length-le bytes {i = 16} (omega arith)),
          )
    ]

pub line-is : (bytes : List ℕ) (i : ℕ) {rest line left : List ℕ} → rest ≡ drop i bytes → rest ≡ line ++ left → length line ≡ min 16 (length rest) →
    0 < length rest → (line ≡ take 16 (drop i bytes)) × (left ≡ drop (i + 16) bytes) × (i < length bytes)
line-is bytes i {rest} {line} {left} e f l some =
    let k = rw e at (chunk-is rest line left f l) in
    (k.0, k.1 ∙ drop-drop 16 i bytes, omega (arith, ap length e, length-drop i bytes))

-- one line more, from byte i on
lines_next : (bytes : List ℕ) (i : ℕ) → i < length bytes →
    data_lines (line_count (length bytes - i)) i (drop i bytes)
    ≡ data_line i (take 16 (drop i bytes)) ++ data_lines (line_count (length bytes - (i + 16))) (i + 16) (drop (i + 16) bytes)
unfolding data_lines
lines_next bytes i h =
    let n : line_count (length bytes - i) ≡ suc (line_count (length bytes - (i + 16))) = omega arith in
    rw (n, drop-drop 16 i bytes)

-- the lines from byte i on are still to be stored, from place `at` on
pub record Lining (before bytes after : List ℕ) (at i : ℕ) : Type 0 where
  pub storing : let all : List ℕ = data_lines (line_count (length bytes)) 0 bytes in
      Storing before 0 all after at (data_lines (line_count (length bytes - i)) i (drop i bytes)) (0 + length all)

pub lining-begin : (b bytes : List ℕ) → Lining b bytes b 0 0
lining-begin b bytes = record { storing = rw (sub-zero (length bytes)) (storing-begin b 0 (data_lines (line_count (length bytes)) 0 bytes)) }

module _ {b bytes c : List ℕ} {at i : ℕ} (s : Lining b bytes c at i) where
  pub lining-next : (n : ℕ) (d : List ℕ) → i < length bytes → Put c d at (data_line i (take 16 (drop i bytes))) n → Lining b bytes d n (i + 16)
  lining-next n d h p = record { storing = storing-put (rw (lines_next bytes i h) at s.storing) p }

  pub lining-room : i < length bytes → at + (12 + 2 * length (take 16 (drop i bytes))) ≤ 12 * line_count (length bytes) + 2 * length bytes
  lining-room h =
      let all = lines-length (line_count (length bytes)) 0 bytes refl in
      let less = length-drop i bytes in
      let few = length-take 16 (drop i bytes) in
      let rest = lines-length (line_count (length bytes - i)) i (drop i bytes) (omega arith) in
      omega (arith, s.storing.ends, all, rest)

  pub lining-end : length bytes ≤ i → Put b c 0 (data_lines (line_count (length bytes)) 0 bytes) at
  unfolding data_lines
  lining-end h =
      let z : line_count (length bytes - i) ≡ 0 = omega arith in
      storing-end (rw z at s.storing)

-- the lines, then the end record: all of the export
pub exports : {b c d : List ℕ} {n k : ℕ} (bytes : List ℕ) → length bytes ≤ 65536 → length (hex_text bytes) ≤ length b →
    Put b c 0 (data_lines (line_count (length bytes)) 0 bytes) n → Put c d n end_record k → HexExports bytes b (0 ∷ k ∷ []) d
unfolding hex_text
exports {b} {c} {d} {n} {k} bytes few room p q =
    let all = put_then p q in
    let e : k ≡ length (hex_text bytes) = omega (arith, all.ends) in
    let made : d ≡ hex_text bytes ++ drop k b = put-pastes all (omega arith) in
    rw (made, e) (export-stored bytes b few room)
