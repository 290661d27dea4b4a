-- Document 01, "Cells in bytes" (RULES 3): what moving a field between bytes and words promises. The wits of cells are a function from a wit's number to 0
-- or 1.
use Rattle.std.specs.Prelude.{ℕ, ◌+◌, ◌*◌, ◌-◌, ◌^◌, ◌/◌, ◌%◌, ◌<◌, ◌≤◌, ◌≡◌, true, List, ◌++◌, length, replicate}
use Rattle.std.specs.Int.Bits.{bit_or}
use Rattle.code.specs.Cells.{bit_place, wit, value, opened, size, sound, stored, turned}
use Rattle.words.specs.Words.{word_groups, front_groups, Tidy}

-- the number that the eight wits of a byte make; and the byte that the eight bits of a number make
unfoldable pub octet : ℕ → ℕ → ℕ
octet order b = value (λ k. b / 2 ^ bit_place order k % 2) 0 8

-- the end of the eight bytes from byte `at` on, of n
pub record End (n at end : ℕ) : Type 0 where
  pub some : at < end
  pub inside : end ≤ n
  pub near : end ≤ at + 8
  pub last : end < at + 8 → n ≤ end

-- the byte `at` of n, or one before it that has eight bytes from there on
pub record Start (n at start : ℕ) : Type 0 where
  pub before : start ≤ at
  pub inside : start + 8 ≤ n
  pub near : at < start + 8
  pub last : start < at → start + 8 ≡ n

-- the n wits from wit p on are the last n bits of x now, and the others are as they were
pub record PutWits (order : ℕ) (before after : List ℕ) (p n x : ℕ) : Type 0 where
  pub long : length after ≡ length before
  pub made : value (wit order after) p n ≡ x % 2 ^ n
  pub front : (k : ℕ) → k < p → wit order after k ≡ wit order before k
  pub rest : (k : ℕ) → p + n ≤ k → wit order after k ≡ wit order before k

-- the bytes of x from byte `at` on that no byte of the cells is for are 0
pub record Roomy (bytes : List ℕ) (at x : ℕ) : Type 0 where
  pub inside : at < length bytes
  pub short : length bytes ≤ 128
  pub none : x % 2 ^ (8 * (at + 8 - length bytes)) ≡ 0

-- a sound buffer of at least one group and at most 256, of 2 to 4 wits
pub record Loadable (order m h : ℕ) (bytes : List ℕ) : Type 0 where
  pub low : 2 ≤ m
  pub high : m ≤ 4
  pub some : 0 < h
  pub few : h ≤ 256
  pub fit : sound order m h bytes ≡ true

-- the groups of the first r words are the buffer's, and then groups of all ones
pub record Loaded (order m h : ℕ) (bytes words : List ℕ) (r : ℕ) : Type 0 where
  pub long : length words ≡ 16
  pub some : 0 < r
  pub few : r ≤ 16
  pub room : h ≤ word_groups m * r
  pub tight : word_groups m * (r - 1) < h
  pub tidy : Tidy m r words
  pub made : front_groups m r words ≡ opened order m h bytes ++ replicate (word_groups m * r - h) (2 ^ m - 1)

-- a buffer for at least one group and at most 256, of 2 to 4 wits
pub record Storable (m h : ℕ) (bytes : List ℕ) : Type 0 where
  pub low : 2 ≤ m
  pub high : m ≤ 4
  pub some : 0 < h
  pub few : h ≤ 256
  pub fit : length bytes ≡ size m h

-- the word w without its last d bits, and with the last c bits of the old behind it
abbrev pub blended : ℕ → ℕ → ℕ → ℕ → ℕ
blended w d old c = bit_or (w / 2 ^ d * 2 ^ (d + c) % 2 ^ 64) (old % 2 ^ c)

-- a word of so many bytes from byte `at` on, whose last d bits are at least those that no byte of the cells is for
pub record Swappable (bytes : List ℕ) (at size d : ℕ) : Type 0 where
  pub inside : at < length bytes
  pub short : length bytes ≤ 128
  pub most : size ≤ 8
  pub room : d < 8 * size
  pub over : 8 * (at + size - length bytes) ≤ d

-- the n wits from wit p on are those of x, without its last d bits and what is above, and r wits were turned from 0 to 1
pub record Swapped (order : ℕ) (before after : List ℕ) (p n d x r : ℕ) : Type 0 where
  pub done : PutWits order before after p n (x / 2 ^ d * 2 ^ d)
  pub count : r ≡ turned order before after
  pub few : r ≤ 64

-- the bytes after hold the groups gs, and r wits were turned from 0 to 1
pub record Stored (order m : ℕ) (gs before after : List ℕ) (r : ℕ) : Type 0 where
  pub bytes : after ≡ stored order m gs
  pub count : r ≡ turned order before after
