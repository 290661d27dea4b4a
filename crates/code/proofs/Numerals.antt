-- Numbers in groups of seven bits: what is written reads back, and what reads was written.
use Prim.Native.Nat.{ℕ, zero, suc, ◌+◌, ◌*◌, ◌-◌, ◌^◌, ◌/◌, ◌%◌, ◌≤◌, ◌<◌, suc-le-suc}
use mathlib.Core.Path.{◌≡◌, refl, sym, ap, ◌∙◌}
use mathlib.Core.Logic.{inl, inr}
use mathlib.Core.List.{List, [], ◌∷◌, ◌++◌}
use native.Mathlib.Omega.{arith}
use native.Mathlib.Nat.{pow-succ', one-le-pow}
use lib.ListN.{length, take}
use borrow.Author.Tests.{lt-ltb, le-ltb}
use Rattle.code.specs.Numerals.{sevens, Numeral, malformed, numeral, longer, read_sevens}
use Rattle.code.proofs.Digits.{sevens-last, sevens-split}
use Rattle.code.proofs.Tests.{le-or-lt, clash}
use Rattle.code.proofs.Wits.{Bytes}

longer-is : (b x n : ℕ) → 0 < x → longer b (numeral x n) ≡ numeral (b - 128 + 128 * x) (suc n)
unfolding longer
longer-is b zero n h = absurd (omega arith)
longer-is b (suc x) n h = refl

pub read-last : (most b : ℕ) (bytes : List ℕ) → b < 128 → read_sevens (suc most) (b ∷ bytes) ≡ numeral b 1
unfolding read_sevens
read-last most b bytes h = rw (lt-ltb b 128 h)

pub read_more : (most b : ℕ) (bytes : List ℕ) → 128 ≤ b → read_sevens (suc most) (b ∷ bytes) ≡ longer b (read_sevens most bytes)
unfolding read_sevens
read_more most b bytes h = rw (le-ltb b 128 h)

written-reads : (most x : ℕ) (rest : List ℕ) → x < 128 ^ suc most →
    read_sevens (suc most) (sevens (suc most) x ++ rest) ≡ numeral x (length (sevens (suc most) x))
written-reads zero x rest b = rw (sevens-last 0 x (omega arith)) (read-last 0 x rest (omega arith))
written-reads (suc most) x rest b = elim (le-or-lt 128 x) [
  | inl h ↦
      let q : x / 128 < 128 ^ suc most = omega (arith, pow-succ' 128 (suc most)) in
      let e : 128 + x % 128 - 128 + 128 * (x / 128) ≡ x = omega arith in
      let s = sevens (suc most) (x / 128) in
      rw (sevens-split (suc most) x h, read_more (suc most) (128 + x % 128) (s ++ rest) (omega arith))
      (rw (written-reads most (x / 128) rest q, longer-is (128 + x % 128) (x / 128) (length s) (omega arith), e))
  | inr h ↦ rw (sevens-last (suc most) x h) (read-last (suc most) x rest h)
]

pub number-reads : (x : ℕ) (rest : List ℕ) → x < 2 ^ 63 → read_sevens 9 (sevens 9 x ++ rest) ≡ numeral x (length (sevens 9 x))
number-reads = written-reads 8

-- a number that reads: it is not empty and stands within the bytes, and of bytes below 256 it is what would be written
pub record Read (most : ℕ) (bytes : List ℕ) (x n : ℕ) : Type 0 where
  pub some : 0 < n
  pub fits : n ≤ length bytes
  pub small : Bytes bytes → x < 128 ^ most
  pub back : Bytes bytes → take n bytes ≡ sevens most x

read-longer : (most b : ℕ) (bytes : List ℕ) (x n : ℕ) → 128 ≤ b → 0 < x → Read most bytes x n → Read (suc most) (b ∷ bytes) (b - 128 + 128 * x) (suc n)
read-longer most b bytes x n h pos r = record {
  some = omega arith;
  fits = suc-le-suc r.fits;
  small = λ u. omega (arith, u 0 (omega arith), r.small (λ i l. u (suc i) (suc-le-suc l)), pow-succ' 128 most);
  back = λ u.
      let y : ℕ = b - 128 + 128 * x in
      let byte : b < 256 = u 0 (omega arith) in
      let low : 128 + y % 128 ≡ b = omega arith in
      let high : y / 128 ≡ x = omega arith in
      rw (sevens-split most y (omega arith), low, high) (ap (λ l. b ∷ l) (r.back (λ i l. u (suc i) (suc-le-suc l))));
}

read-single : (most b : ℕ) (bytes : List ℕ) → b < 128 → Read (suc most) (b ∷ bytes) b 1
read-single most b bytes h = record {
  some = omega arith;
  fits = omega arith;
  small = λ u. omega (arith, pow-succ' 128 most, one-le-pow most 128 (omega arith));
  back = λ u. sym (sevens-last most b h);
}

same_read : (most : ℕ) (bytes : List ℕ) (x n y k : ℕ) → numeral y k ≡ numeral x n → Read most bytes y k → Read most bytes x n
same_read most bytes x n y k e r =
    let p : y ≡ x = cc in
    let q : k ≡ n = cc in
    rw (← p, ← q) r

pub read-was : (most : ℕ) (bytes : List ℕ) (x n : ℕ) → read_sevens most bytes ≡ numeral x n → Read most bytes x n
unfolding read_sevens longer
read-was zero bytes x n e = clash (cc)
read-was (suc most) [] x n e = clash (cc)
read-was (suc most) (b ∷ bytes) x n e = elim (le-or-lt 128 b) [
  | inl h ↦ go (read_sevens most bytes) (read-was most bytes) h (sym (read_more most b bytes h) ∙ e)
  | inr h ↦ same_read (suc most) (b ∷ bytes) x n b 1 (sym (read-last most b bytes h) ∙ e) (read-single most b bytes h)
]
  where
    go : (r : Numeral) → ((y k : ℕ) → r ≡ numeral y k → Read most bytes y k) → 128 ≤ b → longer b r ≡ numeral x n → Read (suc most) (b ∷ bytes) x n
    go malformed ih h q = clash (cc)
    go (numeral zero k) ih h q = clash (cc)
    go (numeral (suc y) k) ih h q =
        same_read (suc most) (b ∷ bytes) x n (b - 128 + 128 * suc y) (suc k) q (read-longer most b bytes (suc y) k h (omega arith) (ih (suc y) k refl))

pub number-written : (bytes : List ℕ) (x n : ℕ) → Bytes bytes → read_sevens 9 bytes ≡ numeral x n → (x < 2 ^ 63) × (take n bytes ≡ sevens 9 x)
number-written bytes x n b e = let r = read-was 9 bytes x n e in (r.small b, r.back b)
