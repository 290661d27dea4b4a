-- The masks of a word: the bit at each group's lowest place, taken from the whole word at once.
use mathlib.Core.Path.{◌≡◌, refl, sym, ap, ap₂, ◌∙◌}
use mathlib.Core.Logic.{◌≢◌}
use mathlib.Core.Bool.{Bool, true, false, cond, not}
use mathlib.Core.List.{List, [], ◌∷◌}
use Prim.Native.Nat.{ℕ, zero, suc, ◌+◌, ◌*◌, ◌-◌, ◌/◌, ◌%◌, ◌^◌, ◌≤◌, ◌<◌, min, max}
use native.Mathlib.Omega.{arith}
use native.Mathlib.Decide.{ℕ_discrete}
use native.Mathlib.Nat.{mul-suc, mod-lt, mod-eq_of_lt, lt_of_le_of_lt, pow-suc, add_comm, div-one}
use lib.Bits.{bit_and, bit_or, and_block, and_mask, and_mod, and_le_r, and_zero_r, and_shr, or_shr, and_step, or_step}
use lib.Pow.{pow_pos, pow_mono, split, shr-shr, mod-pow-add}
use lib.ListN.{length}
use borrow.Author.Tests.{eq-eqb, ne_eqb}
use Rattle.words.specs.Words.{groups_of, word_groups}
use Rattle.words.specs.Marks.{lows, marks_of, nonzero_group, erased_group, either, both, word_lows, word_marks}

pub groups-long : (m n w : ℕ) → length (groups_of m n w) ≡ n
unfolding groups_of
groups-long m zero w = refl
groups-long m (suc n) w = ap suc (groups-long m n w)

-- a group more is twice the room at least
pub twice : (m n : ℕ) → 0 < m → 2 ^ (m * n) + 2 ^ (m * n) ≤ 2 ^ (m * suc n)
twice m n pos = omega (arith, pow-suc 2 (m * n), pow_mono {i = suc (m * n)} {j = m * suc n} (omega (arith, mul-suc m n)))

flag-room : (b : Bool) (p x : ℕ) {q : ℕ} → x < p → p + p ≤ q → cond b 1 0 * p + x < q
flag-room true p x h l = omega arith
flag-room false p x h l = omega arith

pub lows-lt : (m n : ℕ) → 0 < m → lows m n < 2 ^ (m * n)
unfolding lows
lows-lt m zero pos = pow_pos (m * 0)
lows-lt m (suc n) pos = omega (arith, lows-lt m n pos, twice m n pos)

pub marks-lt : (m : ℕ) (t : ℕ → Bool) (gs : List ℕ) → 0 < m → marks_of m t gs < 2 ^ (m * length gs)
unfolding marks_of
marks-lt m t [] pos = pow_pos (m * 0)
marks-lt m t (g ∷ gs) pos = flag-room (t g) (2 ^ (m * length gs)) (marks_of m t gs) (marks-lt m t gs pos) (twice m (length gs) pos)

-- a mask takes the lowest bit of the first group, and then those of the others
masked : (m n x : ℕ) → 0 < m → bit_and x (lows m (suc n)) ≡ x / 2 ^ (m * n) % 2 * 2 ^ (m * n) + bit_and x (lows m n)
unfolding lows
masked m n x pos =
    let k : ℕ = m * n in
    let l : lows m n < 2 ^ k = lows-lt m n pos in
    let s : bit_and x (lows m n) % 2 ^ k ≡ bit_and x (lows m n) = mod-eq_of_lt (lt_of_le_of_lt (and_le_r x (lows m n)) l) in
    let e : bit_and x (lows m n) ≡ bit_and (x % 2 ^ k) (lows m n) = sym s ∙ and_mod x (lows m n) k ∙ ap (bit_and (x % 2 ^ k)) (mod-eq_of_lt l) in
    let o : 2 ^ k + lows m n ≡ 1 * 2 ^ k + lows m n = omega arith in
    ap₂ bit_and (sym (split x k)) o ∙ and_block k (x / 2 ^ k) 1 (x % 2 ^ k) (lows m n) (mod-lt x (pow_pos k)) l
    ∙ ap₂ (λ (a b : ℕ). a * 2 ^ k + b) (and_mask (x / 2 ^ k) 1) (sym e)

-- so a word whose bits at the groups' lowest places tell a test of them gives that test's marks
pub marked : (m n w x : ℕ) (t : ℕ → Bool) → 0 < m → ((k : ℕ) → x / 2 ^ k % 2 ≡ cond (t (w / 2 ^ k % 2 ^ m)) 1 0)
    → bit_and x (lows m n) ≡ marks_of m t (groups_of m n w)
unfolding lows marks_of groups_of
marked m zero w x t pos e = and_zero_r x
marked m (suc n) w x t pos e = masked m n x pos ∙ rw (e (m * n), groups-long m n w, marked m n w x t pos e)

-- the words of the two masks move with their word
shift-comm : (w i j : ℕ) → w / 2 ^ i / 2 ^ j ≡ w / 2 ^ j / 2 ^ i
shift-comm w i j = shr-shr w i j ∙ ap (λ (k : ℕ). w / 2 ^ k) (add_comm i j) ∙ sym (shr-shr w j i)

module _ (op : ℕ → ℕ → ℕ) (shr : (a b k : ℕ) → op a b / 2 ^ k ≡ op (a / 2 ^ k) (b / 2 ^ k)) where
  moved : (d w k : ℕ) → op (op w (w / 2)) (op w (w / 2) / 2 ^ d) / 2 ^ k ≡ op (op (w / 2 ^ k) (w / 2 ^ k / 2)) (op (w / 2 ^ k) (w / 2 ^ k / 2) / 2 ^ d)
  moved d w k =
      let e : op w (w / 2) / 2 ^ k ≡ op (w / 2 ^ k) (w / 2 ^ k / 2) = shr w (w / 2) k ∙ ap (op (w / 2 ^ k)) (shift-comm w 1 k) in
      shr (op w (w / 2)) (op w (w / 2) / 2 ^ d) k ∙ ap₂ op e (shift-comm (op w (w / 2)) d k ∙ ap (λ (y : ℕ). y / 2 ^ d) e)

or-low : (a b : ℕ) → bit_or a b % 2 ≡ max (a % 2) (b % 2)
or-low a b = omega (arith, or_step a b)

and_low : (a b : ℕ) → bit_and a b % 2 ≡ min (a % 2) (b % 2)
and_low a b = omega (arith, and_step a b)

-- the lowest bits of the two words, by the bits of the last group
either-bits : (m u : ℕ) → either m u % 2 ≡ max (max (u % 2) (u / 2 % 2)) (max (u / 2 ^ (m - 2) % 2) (u / 2 / 2 ^ (m - 2) % 2))
either-bits m u =
    or-low (bit_or u (u / 2)) (bit_or u (u / 2) / 2 ^ (m - 2))
    ∙ rw (or_shr u (u / 2) (m - 2), or-low u (u / 2), or-low (u / 2 ^ (m - 2)) (u / 2 / 2 ^ (m - 2)))

both_bits : (m u : ℕ) → both m u % 2 ≡ min (min (u % 2) (u / 2 % 2)) (min (u / 2 ^ (m - 2) % 2) (u / 2 / 2 ^ (m - 2) % 2))
both_bits m u =
    and_low (bit_and u (u / 2)) (bit_and u (u / 2) / 2 ^ (m - 2))
    ∙ rw (and_shr u (u / 2) (m - 2), and_low u (u / 2), and_low (u / 2 ^ (m - 2)) (u / 2 / 2 ^ (m - 2)))

two : (u : ℕ) → u % 4 ≡ u / 2 % 2 * 2 + u % 2
two u = mod-pow-add u 1 1

three : (u : ℕ) → u % 8 ≡ u / 2 / 2 % 2 * 4 + u / 2 % 2 * 2 + u % 2
three u = omega (arith, mod-pow-add u 2 1, two (u / 2))

four : (u : ℕ) → u % 16 ≡ u / 2 / 4 % 2 * 8 + u / 4 % 2 * 4 + u / 2 % 2 * 2 + u % 2
four u = omega (arith, mod-pow-add u 2 2, two u, two (u / 4), ap (λ (x : ℕ). x % 2) (shift-comm u 2 1))

four-or : (a b c d g : ℕ) → a < 2 → b < 2 → c < 2 → d < 2 → g ≡ d * 8 + c * 4 + b * 2 + a
    → (g ≡ 0 → max (max a b) (max c d) ≡ 0) × (g ≢ 0 → max (max a b) (max c d) ≡ 1)
four-or a b c d g ha hb hc hd e = (λ z. omega arith, λ z. omega arith)

four-and : (a b c d g : ℕ) → a < 2 → b < 2 → c < 2 → d < 2 → g ≡ d * 8 + c * 4 + b * 2 + a
    → (g ≡ 15 → min (min a b) (min c d) ≡ 1) × (g ≢ 15 → min (min a b) (min c d) ≡ 0)
four-and a b c d g ha hb hc hd e = (λ z. omega arith, λ z. omega arith)

-- they are told by that group's value, for each of the three sizes
either-tells : (m u : ℕ) → 2 ≤ m → m ≤ 4 → (u % 2 ^ m ≡ 0 → either m u % 2 ≡ 0) × ((u % 2 ^ m ≢ 0) → either m u % 2 ≡ 1)
either-tells zero u h l = absurd (omega arith)
either-tells (suc zero) u h l = absurd (omega arith)
either-tells (suc (suc zero)) u h l = rw (either-bits 2 u, div-one u, div-one (u / 2)) (λ e. omega (arith, two u), λ e. omega (arith, two u))
either-tells (suc (suc (suc zero))) u h l = rw (either-bits 3 u) (λ e. omega (arith, three u), λ e. omega (arith, three u))
either-tells (suc (suc (suc (suc zero)))) u h l = rw (either-bits 4 u)
    (four-or _ _ _ _ (u % 16) (omega arith) (omega arith) (omega arith) (omega arith) (four u))
either-tells (suc (suc (suc (suc (suc m))))) u h l = absurd (omega arith)

both-tells : (m u : ℕ) → 2 ≤ m → m ≤ 4 → (u % 2 ^ m ≡ 2 ^ m - 1 → both m u % 2 ≡ 1) × ((u % 2 ^ m ≢ 2 ^ m - 1) → both m u % 2 ≡ 0)
both-tells zero u h l = absurd (omega arith)
both-tells (suc zero) u h l = absurd (omega arith)
both-tells (suc (suc zero)) u h l = rw (both_bits 2 u, div-one u, div-one (u / 2)) (λ e. omega (arith, two u), λ e. omega (arith, two u))
both-tells (suc (suc (suc zero))) u h l = rw (both_bits 3 u) (λ e. omega (arith, three u), λ e. omega (arith, three u))
both-tells (suc (suc (suc (suc zero)))) u h l = rw (both_bits 4 u) (four-and _ _ _ _ (u % 16) (omega arith) (omega arith) (omega arith) (omega arith) (four u))
both-tells (suc (suc (suc (suc (suc m))))) u h l = absurd (omega arith)

-- The masks of a word: a 1 at the lowest bit of each group that is not 0, and of each that is all ones.
module _ (m n w : ℕ) (h : 2 ≤ m) (l : m ≤ 4) where
  pub nonzero-marks : bit_and (either m w) (lows m n) ≡ marks_of m nonzero_group (groups_of m n w)
  nonzero-marks = marked m n w (either m w) nonzero_group (omega arith) (λ k.
      let u : ℕ = w / 2 ^ k in
      ap (λ (x : ℕ). x % 2) (moved bit_or or_shr (m - 2) w k) ∙ elim (ℕ_discrete (u % 2 ^ m) 0) [
        | yes e ↦ rw (eq-eqb (u % 2 ^ m) 0 e) ((either-tells m u h l).0 e)
        | no e ↦ rw (ne_eqb (u % 2 ^ m) 0 e) ((either-tells m u h l).1 e)
      ])

  pub erased-marks : bit_and (both m w) (lows m n) ≡ marks_of m (erased_group (2 ^ m - 1)) (groups_of m n w)
  erased-marks = marked m n w (both m w) (erased_group (2 ^ m - 1)) (omega arith) (λ k.
      let u : ℕ = w / 2 ^ k in
      ap (λ (x : ℕ). x % 2) (moved bit_and and_shr (m - 2) w k) ∙ elim (ℕ_discrete (u % 2 ^ m) (2 ^ m - 1)) [
        | yes e ↦ rw (eq-eqb (u % 2 ^ m) (2 ^ m - 1) e) ((both-tells m u h l).0 e)
        | no e ↦ rw (ne_eqb (u % 2 ^ m) (2 ^ m - 1) e) ((both-tells m u h l).1 e)
      ])

-- The groups that fail are marked by what is left of the lowest bits.
flag-not : (b : Bool) (p : ℕ) → p ≡ cond b 1 0 * p + cond (not b) 1 0 * p
flag-not true p = omega arith
flag-not false p = omega arith

pub marks-not : (m : ℕ) (t : ℕ → Bool) (gs : List ℕ) → lows m (length gs) ≡ marks_of m t gs + marks_of m (λ g. not (t g)) gs
unfolding lows marks_of
marks-not m t [] = refl
marks-not m t (g ∷ gs) = omega (arith, flag-not (t g) (2 ^ (m * length gs)), marks-not m t gs)

pub word-parts : (m w : ℕ) (t : ℕ → Bool) → word_lows m ≡ word_marks m t w + word_marks m (λ g. not (t g)) w
word-parts m w t = rw (groups-long m (word_groups m) w) at (marks-not m t (groups_of m (word_groups m) w))
