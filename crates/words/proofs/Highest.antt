-- The highest one of a word.
use mathlib.Core.Path.{◌≡◌, refl, ap, ap₂, ◌∙◌}
use Prim.Native.Nat.{ℕ, zero, suc, ◌+◌, ◌*◌, ◌-◌, ◌/◌, ◌%◌, ◌^◌, ◌≤◌, ◌<◌}
use native.Mathlib.Omega.{arith}
use native.Mathlib.Numerals.{add-one}
use native.Mathlib.Decide.{ℕ_discrete}
use native.Mathlib.Nat.{zero-mul, zero-add, pow-suc, mod-lt, lt_of_lt_of_le, lt_of_le_of_lt}
use lib.Bits.{bit_and, bit_or, bit_xor, and_mask, or_step, or_zero_r, xor_block, xor_self, xor_zero_r}
use lib.Count.{ones, ones_in, count_leading_zeros, leading_top, leading_unique, ones_cat}
use lib.Pow.{pow_pos, pow_mono, low}
use Rattle.binary.proofs.Shifts.{power-shifted}
use Rattle.words.specs.Marks.{top_of, stripped}

-- the highest one of a word, and the word without it
pub top-facts : (x : ℕ) → 0 < x → x < 2 ^ 64 → (count_leading_zeros 64 x ≤ 63) × (2 ^ top_of x ≤ x) × (x < 2 ^ suc (top_of x))
top-facts x p h =
    let t = leading_top 64 x p h in
    let e : top_of x ≡ t.0 = omega (arith, t.1) in
    (omega (arith, t.1), rw e t.2, rw e t.3)

-- what stands behind it
behind-top : (x : ℕ) → 0 < x → x < 2 ^ 64 → (x ≡ 1 * 2 ^ top_of x + (x - 2 ^ top_of x)) × (x - 2 ^ top_of x < 2 ^ top_of x)
behind-top x p h =
    let f = top-facts x p h in
    let d = pow-suc 2 (top_of x) in
    (omega (arith, f), omega (arith, f))

strip-is : (x : ℕ) → 0 < x → x < 2 ^ 64 → bit_xor x (1 * 2 ^ top_of x % 2 ^ 64) ≡ x - 2 ^ top_of x
strip-is x p h =
    let k : ℕ = top_of x in
    let a = behind-top x p h in
    let b : 2 ^ k ≡ 1 * 2 ^ k + 0 = omega arith in
    let c : bit_xor x (2 ^ k) ≡ bit_xor (1 * 2 ^ k + (x - 2 ^ k)) (1 * 2 ^ k + 0) = ap₂ bit_xor a.0 b in
    rw (power-shifted k (omega arith)) (c ∙ xor_block k 1 1 (x - 2 ^ k) 0 a.1 (pow_pos k)
    ∙ rw (xor_self 1, xor_zero_r (x - 2 ^ k), zero-mul, zero-add))

-- the same by a mask
pub mask_is : (x m : ℕ) → 0 < x → x < 2 ^ 64 → m ≡ 2 ^ top_of x - 1 → bit_and x m ≡ x - 2 ^ top_of x
mask_is x m p h e =
    let a = behind-top x p h in
    rw (e, and_mask x (top_of x)) (ap (λ (y : ℕ). y % 2 ^ top_of x) a.0 ∙ low 1 (top_of x) a.1)

pub top-is : (x k : ℕ) → 2 ^ k ≤ x → x < 2 ^ suc k → suc k ≤ 64 → top_of x ≡ k
top-is x k a b h = omega (arith, leading_unique 64 x (64 - suc k) (suc k) (omega arith) b (omega (arith, pow-suc 2 k)))

-- a one at the lowest place does not change the highest
odd-above : (k x : ℕ) → 2 ^ k ≤ x → 2 ^ k ≤ x / 2 * 2 + 1
odd-above zero x h = omega arith
odd-above (suc k) x h = omega (arith, pow-suc 2 k)

pub top-or-one : (x : ℕ) → 0 < x → x < 2 ^ 64 → (count_leading_zeros 64 (bit_or x 1) ≤ 63) × (top_of (bit_or x 1) ≡ top_of x)
top-or-one x p h =
    let f = top-facts x p h in
    let k : ℕ = top_of x in
    let z : bit_or (x / 2) (1 / 2) ≡ x / 2 = or_zero_r (x / 2) in
    let a : bit_or x 1 ≡ x / 2 * 2 + 1 = or_step x 1 ∙ rw z (omega arith) in
    let t = top-is (x / 2 * 2 + 1) k (odd-above k x f.1) (omega (arith, f.2, pow-suc 2 k)) (omega arith) in
    rw a ((top-facts (x / 2 * 2 + 1) (omega arith) (omega arith)).0, t)

-- a group, as code takes it out of a word
pub group-is : (u m e : ℕ) → m ≤ 4 → e ≡ 2 ^ m - 1 → (bit_and u e ≡ u % 2 ^ m) × (bit_and u e < 16)
group-is u m e h q = rw (q, and_mask u m) (refl, lt_of_lt_of_le (mod-lt u (pow_pos m)) (pow_mono {j = 4} h))

-- the ones that are left
one_more : (x : ℕ) → 0 < x → x < 2 ^ 64 → ones x ≡ suc (ones (x - 2 ^ top_of x))
unfolding ones ones_in
one_more x p h =
    let k : ℕ = top_of x in
    let a = behind-top x p h in
    let e : ones x ≡ ones 1 + ones (x - 2 ^ k) = ap ones a.0 ∙ ones_cat k 1 (x - 2 ^ k) a.1 in
    omega arith

strip-ones : (x : ℕ) → x < 2 ^ 64 → ones (x - 2 ^ top_of x) ≡ ones x - 1
unfolding ones ones_in
strip-ones x h = elim (ℕ_discrete x 0) [
  | yes e ↦
      let z : x - 2 ^ top_of x ≡ x = omega arith in
      let o : ones x ≡ 0 = rw e in
      rw z (omega arith)
  | no e ↦ omega (arith, one_more x (omega arith) h)
]

stripped-le : (n x : ℕ) → stripped n x ≤ x
unfolding stripped
stripped-le zero x = omega arith
stripped-le (suc n) x = omega (arith, stripped-le n x)

pub stripped-ones : (n x : ℕ) → x < 2 ^ 64 → ones (stripped n x) ≡ ones x - n
unfolding stripped
stripped-ones zero x h = omega arith
stripped-ones (suc n) x h = strip-ones (stripped n x) (lt_of_le_of_lt (stripped-le n x) h) ∙ omega (arith, stripped-ones n x h)

pub ones_none : (x : ℕ) → x < 2 ^ 64 → ones x ≡ 0 → x ≡ 0
unfolding ones ones_in
ones_none x h z = elim (ℕ_discrete x 0) [
  | yes e ↦ e
  | no e ↦ absurd (omega (arith, one_more x (omega arith) h))
]

pub stripped-none : (n x : ℕ) → x < 2 ^ 64 → ones x ≤ n → stripped n x ≡ 0
stripped-none n x h l = ones_none (stripped n x) (lt_of_le_of_lt (stripped-le n x) h) (omega (arith, stripped-ones n x h))

pub stripped-some : (n x : ℕ) → x < 2 ^ 64 → n < ones x → 0 < stripped n x
unfolding ones ones_in
stripped-some n x h l = elim (ℕ_discrete (stripped n x) 0) [
  | yes e ↦
      let o : ones (stripped n x) ≡ 0 = rw e in
      absurd (omega (arith, stripped-ones n x h))
  | no e ↦ omega arith
]

stripped-more : (n x : ℕ) → stripped n x - 2 ^ top_of (stripped n x) ≡ stripped (n + 1) x
unfolding stripped
stripped-more n x = rw (add-one n)

pub stripped-xor : (n x : ℕ) → x < 2 ^ 64 → n < ones x → bit_xor (stripped n x) (1 * 2 ^ top_of (stripped n x) % 2 ^ 64) ≡ stripped (n + 1) x
stripped-xor n x h l = strip-is (stripped n x) (stripped-some n x h l) (lt_of_le_of_lt (stripped-le n x) h) ∙ stripped-more n x
