-- How the groups of words fall into words of 64 bits.
use Prim.Native.Nat.{ℕ, ◌+◌, ◌*◌, ◌/◌, ◌%◌, ◌≤◌, ◌<◌}
use mathlib.Core.Path.{◌≡◌}
use native.Mathlib.Omega.{arith}
use native.Mathlib.Decide.{ℕ_discrete}
use Rattle.words.specs.Words.{word_bytes, word_groups}

pub groups-two : (m : ℕ) → m ≡ 2 → 32 ≡ word_groups m
unfolding word_groups word_bytes
groups-two m e = rw e

pub groups-more : (m : ℕ) → 2 < m → m ≤ 4 → 16 ≡ word_groups m
unfolding word_groups word_bytes
groups-more m h l = elim (ℕ_discrete m 3) [
  | yes e ↦ rw e
  | no e ↦ let f : m ≡ 4 = omega arith in rw f
]

-- the groups of a word of the field fall into one of these
pub groups-room : (m i : ℕ) → 2 ≤ m → m ≤ 4 → word_groups m * i % 64 + word_groups m ≤ 64
groups-room m i h l = elim (ℕ_discrete m 2) [
  | yes e ↦ rw (← groups-two m e) (omega arith)
  | no e ↦ rw (← groups-more m (omega arith) l) (omega arith)
]

-- and those of a field fall into four
pub groups-within : (m i n : ℕ) → 2 ≤ m → m ≤ 4 → i < n → word_groups m * n ≤ 256 → word_groups m * i / 64 < 4
groups-within m i n h l k f = elim (ℕ_discrete m 2) [
  | yes e ↦ let g = rw (← groups-two m e) at f in rw (← groups-two m e) (omega arith)
  | no e ↦ let g = rw (← groups-more m (omega arith) l) at f in rw (← groups-more m (omega arith) l) (omega arith)
]
