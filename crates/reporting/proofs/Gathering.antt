-- The flags of a word, gathered from its last group to its first.
use Prim.Native.Nat.{ℕ, zero, suc, ◌+◌, ◌*◌, ◌-◌, ◌/◌, ◌%◌, ◌^◌, ◌≤◌, ◌<◌}
use mathlib.Core.Path.{◌≡◌, refl, sym, ◌∙◌}
use native.Mathlib.Omega.{arith}
use native.Mathlib.Decide.{ℕ_discrete}
use native.Mathlib.Nat.{mul-zero, mul-suc, div-one, mod-eq_of_lt, zero-div, zero-mod}
use native.Mathlib.Numerals.{add-one}
use lib.Pow.{pow_mono, shr-shr, mod-mod-pow}
use Rattle.code.specs.Lists.{Upto}
use Rattle.code.proofs.Report.{flag_word, flags-lt}
use Rattle.words.specs.Words.{groups_of, word_groups}
use Rattle.words.specs.Marks.{groups_in}
use Rattle.words.proofs.Masks.{groups-long}
use Rattle.words.proofs.Sizes.{word_fits}

upto-last : (m b n k w : ℕ) → k ≤ n → Upto b (groups_of m n w) → Upto b (groups_of m k w)
unfolding groups_of
upto-last m b zero k w h u = let e : k ≡ 0 = omega arith in rw e tt
upto-last m b (suc n) k w h u = elim (ℕ_discrete k (suc n)) [
  | yes e ↦ rw e u
  | no e ↦ upto-last m b n k w (omega arith) u.1
]

-- a group of 0 or 1 is its lowest bit
low-flag : (m x : ℕ) → 2 ≤ m → x % 2 ^ m ≤ 1 → x % 2 ≡ x % 2 ^ m
low-flag m x h l =
    let e : m - 1 + 1 ≡ m = omega arith in
    sym (rw e at (mod-mod-pow x (m - 1) 1)) ∙ mod-eq_of_lt (omega arith)

-- the last k groups are gathered
pub record Gathering (m w left bits k : ℕ) : Type 0 where
  pub rest : left ≡ w / 2 ^ (m * k)
  pub done : bits ≡ flag_word (groups_of m k w)

pub gathering-none : (m w : ℕ) → Gathering m w w 0 0
unfolding flag_word groups_of
gathering-none m w = record { rest = rw (mul-zero m, div-one w); done = refl }

module _ {m w left bits k : ℕ} (C : Gathering m w left bits k) (hm : 2 ≤ m) (lm : m ≤ 4) (u : Upto 1 (groups_in m w)) (h : k < word_groups m) where
  pub gathering-small : bits < 2 ^ 32
  gathering-small =
      let f = upto-last m 1 (word_groups m) k w (omega arith) u in
      let l = rw (groups-long m k w) at (flags-lt (groups_of m k w) f) in
      omega (arith, C.done, l, pow_mono {i = k} {j = 32} (omega (arith, (word_fits m hm lm).3)))

  pub gathering-more : Gathering m w (left / 2 ^ m) (2 * bits + left % 2) (k + 1)
  unfolding flag_word groups_of
  gathering-more =
      let f = upto-last m 1 (word_groups m) (suc k) w (omega arith) u in
      let g = low-flag m (w / 2 ^ (m * k)) hm f.0 in
      record {
        rest = rw (C.rest, add-one k, mul-suc m k) (shr-shr w (m * k) m);
        done = rw (add-one k, C.rest, C.done, g) (omega arith);
      }

-- a word of 0 has no flag
pub gathered-zero : (m n : ℕ) → flag_word (groups_of m n 0) ≡ 0
unfolding flag_word groups_of
gathered-zero m zero = refl
gathered-zero m (suc n) = rw (zero-div (2 ^ (m * n)), zero-mod (2 ^ m), gathered-zero m n)
