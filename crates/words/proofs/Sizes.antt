-- The sizes of words.
use mathlib.Core.Path.{◌≡◌, refl}
use Prim.Native.Nat.{ℕ, zero, suc, ◌*◌, ◌≤◌}
use native.Mathlib.Omega.{arith}
use Rattle.words.specs.Words.{word_bytes, word_groups}

-- a word's groups fill it, and sixteen words hold a field
pub word_fits : (m : ℕ) → 2 ≤ m → m ≤ 4 → (m * word_groups m ≡ 8 * word_bytes m) × (6 ≤ word_bytes m) × (word_bytes m ≤ 8) × (word_groups m ≤ 32)
    × ((h : ℕ) → h ≤ 256 → m * h ≤ 128 * word_bytes m)
unfolding word_groups word_bytes
word_fits zero h l = absurd (omega arith)
word_fits (suc zero) h l = absurd (omega arith)
word_fits (suc (suc zero)) h l = (refl, omega arith, omega arith, omega arith, λ k u. omega arith)
word_fits (suc (suc (suc zero))) h l = (refl, omega arith, omega arith, omega arith, λ k u. omega arith)
word_fits (suc (suc (suc (suc zero)))) h l = (refl, omega arith, omega arith, omega arith, λ k u. omega arith)
word_fits (suc (suc (suc (suc (suc m))))) h l = absurd (omega arith)
