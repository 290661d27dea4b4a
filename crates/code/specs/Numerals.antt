-- Document 01, "Dumps" (RULES 7): numbers in groups of seven bits, written and read.
use Rattle.std.specs.Prelude.{ℕ, zero, suc, ◌+◌, ◌*◌, ◌-◌, ◌/◌, ◌%◌, cond, List, [], ◌∷◌, ◌++◌, ltb, drop}

-- "A number is groups of seven bits, lowest first, top bit set on all but the last", in at most so many bytes
unfoldable pub sevens : ℕ → ℕ → List ℕ
sevens zero x = []
sevens (suc most) x = cond (ltb x 128) (x ∷ []) ((128 + x % 128) ∷ sevens most (x / 128))

-- "as numbers", one after the other, each of "1 to 9 bytes"
unfoldable pub numerals_of : List ℕ → List ℕ
numerals_of [] = []
numerals_of (x ∷ xs) = sevens 9 x ++ numerals_of xs

-- "A number is groups of seven bits", read: the number and the count of its bytes, or "Malformed"
pub data Numeral : Type 0 where
  malformed : Numeral
  numeral : ℕ → ℕ → Numeral

-- "a last group of 0 is allowed only alone (shortest form)": after a byte whose top bit is set, 0 is none
unfoldable pub longer : ℕ → Numeral → Numeral
longer b malformed = malformed
longer b (numeral zero n) = malformed
longer b (numeral (suc x) n) = numeral (b - 128 + 128 * suc x) (suc n)

-- "Malformed: a number cut off, over nine bytes or not shortest"
unfoldable pub read_sevens : ℕ → List ℕ → Numeral
read_sevens zero bytes = malformed
read_sevens (suc most) [] = malformed
read_sevens (suc most) (b ∷ bytes) = cond (ltb b 128) (numeral b 1) (longer b (read_sevens most bytes))

-- "serial, m, t, v, n as numbers", read: the numbers and where they end, or "a number cut off"
pub data Numbers : Type 0 where
  cut : Numbers
  numbers : List ℕ → ℕ → Numbers

-- "as numbers", one after the other: one more in front
unfoldable pub preceded : ℕ → Numbers → Numbers
preceded x cut = cut
preceded x (numbers xs end) = numbers (x ∷ xs) end

-- k numbers one after the other, each of "1 to 9 bytes"
unfoldable pub read_numbers : ℕ → List ℕ → ℕ → Numbers
read_numbers zero bytes at = numbers [] at
read_numbers (suc k) bytes at = elim (read_sevens 9 (drop at bytes)) [ malformed ↦ cut | numeral x n ↦ preceded x (read_numbers k bytes (at + n)) ]
