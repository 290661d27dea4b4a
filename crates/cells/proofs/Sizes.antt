-- The sizes of words and of buffers.
use mathlib.Core.Path.{◌≡◌, sym}
use mathlib.Core.List.{List}
use Prim.Native.Nat.{ℕ, suc, ◌+◌, ◌*◌, ◌≤◌, ◌<◌}
use native.Mathlib.Omega.{arith}
use native.Mathlib.Decide.{dec_lt}
use native.Mathlib.Numerals.{add-one}
use native.Mathlib.Nat.{mul-suc, mul-zero, mul_assoc, mul-le-mul_left}
use lib.ListN.{length}
use Rattle.code.proofs.Cells.{sound-length}
use Rattle.words.specs.Words.{word_bytes}
use Rattle.words.proofs.Sizes.{word_fits}
use Rattle.cells.specs.Cells.{Loadable, Storable}

pub storable : {o m h : ℕ} {bs : List ℕ} → Loadable o m h bs → Storable m h bs
storable {o} {m} {h} {bs} L = record { low = L.low; high = L.high; some = L.some; few = L.few; fit = sound-length o m h bs L.fit }

-- a loop over the words of a buffer has come to word i at byte `at`, and not to the end
pub record Sizes (m h n size i at : ℕ) : Type 0 where
  pub wide : size ≡ word_bytes m
  pub six : 6 ≤ size
  pub eight : size ≤ 8
  pub short : n ≤ 128
  pub held : m * h ≤ 8 * n
  pub tight : 8 * n < m * h + 8
  pub start : at ≡ size * i
  pub inside : at < n
  pub within : i < 16

module _ {m h : ℕ} {bs : List ℕ} (S : Storable m h bs) where
  sizes : (size i at : ℕ) → size ≡ word_bytes m → at ≡ size * i → at < length bs → Sizes m h (length bs) size i at
  sizes size i at e s l =
      let f = word_fits m S.low S.high in
      let k = f.4 h S.few in
      record {
        wide = e;
        six = omega (arith, f.1);
        eight = omega (arith, f.2);
        short = omega (arith, S.fit, f.2);
        held = omega (arith, S.fit);
        tight = omega (arith, S.fit);
        start = s;
        inside = l;
        within = elim (dec_lt i 16) [ yes u ↦ u | no u ↦ absurd (omega (arith, S.fit, mul-le-mul_left {m = 16} {n = i} size (omega arith))) ];
      }

  pub sizes-none : (size : ℕ) → size ≡ word_bytes m → Sizes m h (length bs) size 0 0
  sizes-none size e = sizes size 0 0 e (sym (mul-zero size)) (omega (arith, S.fit, mul-le-mul_left {m = 1} {n = h} m S.some, S.low))

  pub sizes-more : {size i at : ℕ} → Sizes m h (length bs) size i at → at + size < length bs → Sizes m h (length bs) size (i + 1) (at + size)
  sizes-more {size} {i} {at} Z l = sizes size (i + 1) (at + size) Z.wide (rw (add-one i, mul-suc size i) (omega (arith, Z.start))) l

-- in wits
pub wits-at : {m h n size i at : ℕ} → Sizes m h n size i at → 8 * at ≡ 8 * size * i
wits-at {m} {h} {n} {size} {i} Z = rw Z.start (sym (mul_assoc 8 size i))

-- the words before the last end before the end, and each starts a word further
pub before-last : (size i last n : ℕ) → i < last → size * last < n → size * i + size < n
before-last size i last n h l = omega (arith, mul-le-mul_left {m = suc i} {n = last} size h, mul-suc size i)

pub word-further : (size i : ℕ) → size * (i + 1) ≡ size * i + size
word-further size i = rw (add-one i, mul-suc size i) (omega arith)
