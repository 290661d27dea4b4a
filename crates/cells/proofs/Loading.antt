-- The loop that loads words, and its last word, which has ones behind the field.
use mathlib.Core.Path.{◌≡◌, sym, ap, ◌∙◌}
use mathlib.Core.List.{List}
use Prim.Native.Nat.{ℕ, suc, ◌+◌, ◌*◌, ◌-◌, ◌^◌, ◌≤◌, ◌<◌}
use native.Mathlib.Omega.{arith}
use native.Mathlib.Decide.{ℕ_discrete}
use native.Mathlib.Numerals.{add-one}
use native.Mathlib.Nat.{mul-suc, mul_assoc, lt_of_mul-lt-mul_left, mul-zero, mul-le-mul_left, add-zero, zero-add, mod-eq_of_lt}
use lib.Bits.{bit_or, or_shifted}
use lib.Pow.{ones_lt}
use lib.ListN.{length, get_or, set, take, length-set}
use lib.Seq.{get_or-take, length-take-le, get_or-set_same, get_or-set_other}
use Rattle.code.specs.Cells.{wit, value, listed, group}
use Rattle.code.proofs.Wits.{wit-lt}
use Rattle.code.proofs.Numbers.{value-lt, value_same, value_none, value-split}
use Rattle.code.proofs.Cells.{sound-past}
use Rattle.words.specs.Words.{all_groups, word_bytes, word_groups}
use Rattle.cells.specs.Cells.{Loadable, Loaded}
use Rattle.cells.proofs.Regroup.{all_words, padded, padded-lt, padded-before, padded-ones, padded-groups}
use Rattle.words.proofs.Sizes.{word_fits}
use Rattle.words.proofs.Front.{each_set}
use Rattle.cells.proofs.Sizes.{storable, Sizes, sizes-none, sizes-more, wits-at}

-- the last word gets its ones
pad-last : (f : ℕ → ℕ) (b p a d : ℕ) → p + a ≡ b → ((k : ℕ) → b ≤ k → f k ≡ 0) → bit_or (value f p (a + d)) (2 ^ d - 1) ≡ value (padded b f) p (a + d)
pad-last f b p a d e z =
    let none : value f (p + a) d ≡ 0 = value_none f (p + a) d (λ i h. z (p + a + i) (omega arith)) in
    let full : value (padded b f) (p + a) d ≡ 2 ^ d - 1 = padded-ones b f (p + a) d (omega arith) in
    let front : value (padded b f) p a ≡ value f p a = value_same (padded b f) f p a (λ i h. padded-before b f (p + i) (omega arith)) in
    rw (value-split f p a d, value-split (padded b f) p a d, none, full, front, add-zero) (or_shifted (value f p a) d (2 ^ d - 1) (ones_lt d))

-- the first i words are loaded, up to byte `at`
pub record Loading (o m h : ℕ) (bs ws : List ℕ) (size i at : ℕ) : Type 0 where
  pub sizes : Sizes m h (length bs) size i at
  pub long : length ws ≡ 16
  pub made : (j : ℕ) → j < i → get_or ws j 0 ≡ value (wit o bs) (8 * size * j) (8 * size)

module _ {o m h : ℕ} {bs : List ℕ} (L : Loadable o m h bs) where
  pub loading-none : (ws : List ℕ) (size : ℕ) → length ws ≡ 16 → size ≡ word_bytes m → Loading o m h bs ws size 0 0
  loading-none ws size n e = record { sizes = sizes-none (storable L) size e; long = n; made = λ j l. absurd (omega arith) }

  module _ {ws : List ℕ} {size i at : ℕ} (C : Loading o m h bs ws size i at) where
    abbrev z : Sizes m h (length bs) size i at
    z = C.sizes

    pub loading-more : (x : ℕ) → at + size < length bs → x ≡ value (wit o bs) (8 * at) (8 * size) → Loading o m h bs (set ws i x) size (i + 1) (at + size)
    loading-more x l e = record {
      sizes = sizes-more (storable L) z l;
      long = rw length-set C.long;
      made = each_set (λ j y. y ≡ value (wit o bs) (8 * size * j) (8 * size)) ws i x (omega (arith, C.long, z.within)) (rw (wits-at z) at e) C.made;
    }

    -- the words with the ones behind the field
    module _ (y : ℕ) (end : length bs ≤ at + size) (e : y ≡ value (wit o bs) (8 * at) (8 * size)) where
      abbrev t : ℕ
      t = 8 * size

      abbrev d : ℕ
      d = 8 * (at + size) - m * h

      abbrev us : List ℕ
      us = set ws i (bit_or y (2 ^ d - 1))

      each : (j : ℕ) → j < suc i → get_or us j 0 ≡ value (padded (m * h) (wit o bs)) (t * j) t
      each j k =
          let f = wit o bs in
          let whole : t - d + d ≡ t = omega (arith, z.tight, z.inside) in
          elim (ℕ_discrete j i) [
            | yes q ↦ rw (q, get_or-set_same ws i (bit_or y (2 ^ d - 1)) 0 (omega (arith, C.long, z.within)), e, ← wits-at z)
                (rw whole at (pad-last f (m * h) (8 * at) (t - d) d (omega (arith, z.held, z.tight, z.inside)) (sound-past o m h bs L.fit)))
            | no q ↦ get_or-set_other ws i j (bit_or y (2 ^ d - 1)) 0 q ∙ C.made j (omega arith) ∙ sym (value_same (padded (m * h) f) f (t * j) t (λ v u.
                let more = mul-le-mul_left {m = suc j} {n = i} t (omega arith) in
                padded-before (m * h) f (t * j + v) (omega (arith, wits-at z, z.tight, z.inside, mul-suc t j))))
          ]

      pub loading-all : Loaded o m h bs us (i + 1)
      loading-all =
          let w = word_fits m L.low L.high in
          let n = word_groups m in
          let f = wit o bs in
          let g = padded (m * h) f in
          let lt = padded-lt (m * h) f (wit-lt o bs) in
          let many : m * n ≡ t = w.0 ∙ ap (λ (x : ℕ). 8 * x) (sym z.wide) in
          let one : i + 1 ≡ suc i = add-one i in
          let front : m * (n * i) ≡ 8 * at = rw (← mul_assoc m n i, many) (sym (wits-at z)) in
          let back : m * (n * suc i) ≡ 8 * (at + size) = rw (← mul_assoc m n (suc i), many, mul-suc t i) (omega (arith, wits-at z)) in
          let room : h < suc (n * suc i) = lt_of_mul-lt-mul_left m {m = h} {n = suc (n * suc i)} (omega (arith, mul-suc m (n * suc i), z.held, L.low)) in
          let rest : h + (n * suc i - h) ≡ n * suc i = omega arith in
          let vs : List ℕ = take (suc i) us in
          let long : length vs ≡ suc i = length-take-le (suc i) us (rw length-set (omega (arith, C.long, z.within))) in
          let all : all_groups m n vs ≡ listed (group m g) (n * 0) (n * length vs) = all_words g lt m n vs 0 (λ j k.
          let b : j < suc i = omega arith in
          rw (many, zero-add j, get_or-take (suc i) us j 0 b, each j b) (mod-eq_of_lt (value-lt g (t * j) t lt))) in
          rw one (record {
            long = rw length-set C.long;
            some = omega arith;
            few = omega (arith, z.within);
            room = omega arith;
            tight = let p : suc i - 1 ≡ i = omega arith in rw p (lt_of_mul-lt-mul_left m {m = n * i} {n = h} (omega (arith, front, z.tight, z.inside)));
            tidy = λ j k. rw (each j k, z.wide) (value-lt g (8 * word_bytes m * j) (8 * word_bytes m) lt);
            made = rw (all, long, mul-zero n) (rw rest at (padded-groups f m h (n * suc i - h)));
          })
