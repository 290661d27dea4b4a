-- Wits in groups of one size and of another: words are groups of 48 or 64 wits.
use mathlib.Core.Path.{◌≡◌, refl, sym, ap, ap₂, ◌∙◌}
use mathlib.Core.Bool.{Bool, true, false, cond}
use mathlib.Core.List.{List, [], ◌∷◌, ◌++◌}
use Prim.Native.Nat.{ℕ, zero, suc, ◌+◌, ◌*◌, ◌-◌, ◌/◌, ◌%◌, ◌^◌, ◌≤◌, ◌<◌}
use native.Mathlib.Omega.{arith}
use native.Mathlib.Nat.{mul-suc, mul-zero, mul_assoc, mul-le-mul_left, add_comm, add-suc, suc-add, add-zero, zero-add, pow-succ'}
use native.Mathlib.Nat.{mod-lt, mod-eq_of_lt, mul-add-div, mul-add-mod_self_left, div-eq_of_lt}
use lib.Dec.{ltb}
use lib.Pow.{pow_pos, field, mod-mod-pow}
use lib.ListN.{length, get_or, replicate}
use borrow.Author.Tests.{lt-ltb, le-ltb}
use Rattle.code.specs.Cells.{value, listed, group, groups, wit_of}
use Rattle.code.proofs.Numbers.{bit, value_same, value-is, value-front}
use Rattle.code.proofs.Cells.{wit_of-lt}
use Rattle.words.specs.Words.{groups_of, all_groups}

-- a list in two parts, with the same numbers, and with one number
pub listed-append : (f : ℕ → ℕ) (q a b : ℕ) → listed f q (a + b) ≡ listed f q a ++ listed f (q + a) b
unfolding listed
listed-append f q zero b = rw (zero-add b, add-zero q)
listed-append f q (suc a) b = rw (suc-add a b, add-suc q a, ← suc-add q a) (ap (λ (l : List ℕ). f q ∷ l) (listed-append f (suc q) a b))

listed_same : (f g : ℕ → ℕ) (q n : ℕ) → ((j : ℕ) → q ≤ j → j < q + n → f j ≡ g j) → listed f q n ≡ listed g q n
unfolding listed
listed_same f g q zero e = refl
listed_same f g q (suc n) e = ap₂ (λ (x : ℕ) (l : List ℕ). x ∷ l) (e q (omega arith) (omega arith))
    (listed_same f g (suc q) n (λ j a b. e j (omega arith) (omega arith)))

listed-const : (f : ℕ → ℕ) (x q n : ℕ) → ((j : ℕ) → q ≤ j → f j ≡ x) → listed f q n ≡ replicate n x
unfolding listed
listed-const f x q zero e = refl
listed-const f x q (suc n) e = ap₂ (λ (y : ℕ) (l : List ℕ). y ∷ l) (e q (omega arith)) (listed-const f x (suc q) n (λ j a. e j (omega arith)))

module _ (f : ℕ → ℕ) (lt : (k : ℕ) → f k < 2) (m n : ℕ) where
  -- a word whose last bits are wits has those wits' groups
  groups-of : (k q x : ℕ) → x % 2 ^ (m * k) ≡ value f (m * q) (m * k) → groups_of m k x ≡ listed (group m f) q k
  unfolding groups_of listed group
  groups-of zero q x e = refl
  groups-of (suc k) q x e =
      let s : m * suc k ≡ m + m * k = mul-suc m k ∙ add_comm (m * k) m in
      let v = value-front f (m * q) m x (m * k) lt (rw s at e) in
      ap₂ (λ (y : ℕ) (l : List ℕ). y ∷ l) v.0 (groups-of k (suc q) x (rw (mul-suc m q) v.1))

  -- words whose last bits are wits, one after the other, have those wits' groups
  pub all_words : (ws : List ℕ) (q : ℕ) → ((j : ℕ) → j < length ws → get_or ws j 0 % 2 ^ (m * n) ≡ value f (m * n * (q + j)) (m * n))
      → all_groups m n ws ≡ listed (group m f) (n * q) (n * length ws)
  unfolding all_groups listed
  all_words [] q e = rw (mul-zero n)
  all_words (w ∷ ws) q e =
      let s : n * suc (length ws) ≡ n + n * length ws = mul-suc n (length ws) ∙ add_comm (n * length ws) n in
      let p : m * (n * q) ≡ m * n * q = sym (mul_assoc m n q) in
      rw (s, listed-append (group m f) (n * q) n (n * length ws), ← mul-suc n q)
      (ap₂ (λ (a b : List ℕ). a ++ b) (groups-of n (n * q) w (rw (p, ← add-zero q) (e 0 (omega arith))))
      (all_words ws (suc q) (λ j l. rw (suc-add q j, ← add-suc q j) (e (suc j) (omega arith)))))

-- the wits f before wit b, and ones from there on
abbrev pub padded : ℕ → (ℕ → ℕ) → ℕ → ℕ
padded b f k = cond (ltb k b) (f k) 1

pub padded-lt : (b : ℕ) (f : ℕ → ℕ) → ((k : ℕ) → f k < 2) → (k : ℕ) → padded b f k < 2
padded-lt b f lt k = go (ltb k b)
  where
    go : (t : Bool) → cond t (f k) 1 < 2
    go true = lt k
    go false = omega arith

pub padded-before : (b : ℕ) (f : ℕ → ℕ) (k : ℕ) → k < b → padded b f k ≡ f k
padded-before b f k h = rw (lt-ltb k b h)

pub padded-ones : (b : ℕ) (f : ℕ → ℕ) (w n : ℕ) → b ≤ w → value (padded b f) w n ≡ 2 ^ n - 1
unfolding value
padded-ones b f w zero h = refl
padded-ones b f w (suc n) h = rw (le-ltb (w + n) b (omega arith)) (omega (arith, padded-ones b f w n h, pow-succ' 2 n, pow_pos n))

-- their groups
pub padded-groups : (f : ℕ → ℕ) (m h d : ℕ) → listed (group m (padded (m * h) f)) 0 (h + d) ≡ groups m h f ++ replicate d (2 ^ m - 1)
unfolding groups group
padded-groups f m h d =
    let g = padded (m * h) f in
    listed-append (group m g) 0 h d ∙ ap₂ (λ (a b : List ℕ). a ++ b)
    (listed_same (group m g) (group m f) 0 h (λ j a b. value_same g f (m * j) m (λ i u.
    padded-before (m * h) f (m * j + i) (omega (arith, mul-suc m j, mul-le-mul_left {m = suc j} {n = h} m (omega arith))))))
    (listed-const (group m g) (2 ^ m - 1) (0 + h) d (λ j a. padded-ones (m * h) f (m * j) m (mul-le-mul_left {m = h} {n = j} m (omega arith))))

-- the wits of groups of t wits, or of words of t bits
module _ (ws : List ℕ) (t : ℕ) (pos : 0 < t) where
  -- the lower bits of a number
  bit-mod : (x q : ℕ) → q < t → bit q (x % 2 ^ t) ≡ bit q x
  bit-mod x q h =
      let d : ℕ = t - 1 - q in
      let e : t ≡ suc d + q = omega arith in
      let s : suc d ≡ d + 1 = omega arith in
      rw (e, field x (suc d) q, s) (mod-mod-pow (x / 2 ^ q) d 1)

  pub wit_of-value : (i : ℕ) → get_or ws i 0 % 2 ^ t ≡ value (wit_of t ws) (t * i) t
  unfolding wit_of
  wit_of-value i = sym (value-is (wit_of t ws) (t * i) t (get_or ws i 0 % 2 ^ t) (wit_of-lt t ws) (mod-lt (get_or ws i 0) (pow_pos t))
      (λ d l. rw (mul-add-div pos i d, div-eq_of_lt l, add-zero, mul-add-mod_self_left t i d, mod-eq_of_lt l)
      (sym (bit-mod (get_or ws i 0) (t - 1 - d) (omega arith)))))
