-- Bits of numbers; the number that wits make, by its bits and by its parts, lists of such numbers, and sums of wits. The wits are any function, so none of
-- this looks at bytes.
use mathlib.Core.Path.{◌≡◌, sym, ◌∙◌, refl, ap}
use Prim.Native.Nat.{ℕ, zero, suc, ◌+◌, ◌*◌, ◌-◌, ◌^◌, ◌/◌, ◌%◌, ◌<◌, max, ◌≤◌}
use native.Mathlib.Omega.{arith}
use lib.Pow.{pow_pos, pow_mono, high, low, field, mod-mod-pow}
use native.Mathlib.Nat.{pow-succ', div-div-eq-div-mul, suc-add, add-suc, add-zero, lt_of_lt_of_le, add_assoc, pow-suc}
use lib.Bits.{bit_or, or_step}
use native.Mathlib.Decide.{ℕ_discrete}
use lib.Arith.{lt_of_le-ne}
use lib.ListN.{length, get_or}
use Rattle.code.specs.Cells.{value, listed, sum}

-- bit q of x
abbrev pub bit : ℕ → ℕ → ℕ
bit q x = x / 2 ^ q % 2

pub bit-lt : (q x : ℕ) → bit q x < 2
bit-lt q x = omega arith

pub bit-suc : (q x : ℕ) → bit (suc q) x ≡ bit q (x / 2)
bit-suc q x = rw (pow-succ', ← div-div-eq-div-mul)

-- numbers of k bits are equal where their bits are
pub bits-ext : (k a b : ℕ) → a < 2 ^ k → b < 2 ^ k → ((q : ℕ) → q < k → bit q a ≡ bit q b) → a ≡ b
bits-ext zero a b ha hb e = omega arith
bits-ext (suc k) a b ha hb e =
    let half : a / 2 ≡ b / 2 = bits-ext k (a / 2) (b / 2) (omega (arith, pow-succ' 2 k)) (omega (arith, pow-succ' 2 k))
    (λ q h. sym (bit-suc q a) ∙ e (suc q) (omega arith) ∙ bit-suc q b) in
    omega (arith, e 0 (omega arith))

-- or of two numbers, by their lowest bits
pub or-snoc : (a x b y : ℕ) → x < 2 → y < 2 → bit_or (2 * a + x) (2 * b + y) ≡ 2 * bit_or a b + max x y
or-snoc a x b y hx hy =
    let p : (2 * a + x) / 2 ≡ a = omega arith in
    let q : (2 * b + y) / 2 ≡ b = omega arith in
    let s : (2 * a + x) % 2 ≡ x = omega arith in
    let t : (2 * b + y) % 2 ≡ y = omega arith in
    or_step (2 * a + x) (2 * b + y) ∙ rw (p, q, s, t) (omega arith)

-- every bit of all ones is 1
pub bit-full : (k q : ℕ) → q < k → bit q (2 ^ k - 1) ≡ 1
bit-full zero q h = absurd (omega arith)
bit-full (suc k) zero h = omega (arith, pow-succ' 2 k, pow_pos k)
bit-full (suc k) (suc q) h =
    let e : (2 ^ suc k - 1) / 2 ≡ 2 ^ k - 1 = omega (arith, pow-succ' 2 k, pow_pos k) in
    bit-suc q (2 ^ suc k - 1) ∙ rw e (bit-full k q (omega arith))

pub value_same : (f g : ℕ → ℕ) (w n : ℕ) → ((i : ℕ) → i < n → f (w + i) ≡ g (w + i)) → value f w n ≡ value g w n
unfolding value
value_same f g w zero e = refl
value_same f g w (suc n) e = omega (arith, value_same f g w n (λ i h. e i (omega arith)), e n (omega arith))

pub value-lt : (f : ℕ → ℕ) (w n : ℕ) → ((k : ℕ) → f k < 2) → value f w n < 2 ^ n
unfolding value
value-lt f w zero b = omega arith
value-lt f w (suc n) b = omega (arith, value-lt f w n b, b (w + n), pow-succ' 2 n)

pub value-byte : (f : ℕ → ℕ) (w n : ℕ) → ((k : ℕ) → f k < 2) → n ≤ 8 → value f w n < 256
value-byte f w n b h = lt_of_lt_of_le (value-lt f w n b) (pow_mono {j = 8} h)

-- bit q of n wits is the wit that has q after it
pub value-bit : (f : ℕ → ℕ) (w d q n : ℕ) → ((k : ℕ) → f k < 2) → n ≡ suc (d + q) → bit q (value f w n) ≡ f (w + d)
unfolding value
value-bit f w d q zero b e = absurd (omega arith)
value-bit f w d zero (suc n) b e =
    let s : d ≡ n = omega arith in
    rw s (omega (arith, b (w + n)))
value-bit f w d (suc q) (suc n) b e =
    let s : value f w (suc n) / 2 ≡ value f w n = omega (arith, b (w + n)) in
    bit-suc q (value f w (suc n)) ∙ rw s (value-bit f w d q n b (omega arith))

-- wits that are the bits of a number make it
pub value-is : (f : ℕ → ℕ) (w n x : ℕ) → ((k : ℕ) → f k < 2) → x < 2 ^ n → ((i : ℕ) → i < n → f (w + i) ≡ bit (n - 1 - i) x) → value f w n ≡ x
value-is f w n x b h e = bits-ext n (value f w n) x (value-lt f w n b) h
    (λ q l.
    let p : n - 1 - (n - 1 - q) ≡ q = omega arith in
    value-bit f w (n - 1 - q) q n b (omega arith) ∙ rw p at (e (n - 1 - q) (omega arith)))

-- wits that make 0 are 0, and the other way
pub value-zero : (f : ℕ → ℕ) (w n i : ℕ) → value f w n ≡ 0 → i < n → f (w + i) ≡ 0
unfolding value
value-zero f w zero i e h = absurd (omega arith)
value-zero f w (suc n) i e h = elim (ℕ_discrete i n) [ yes s ↦ rw s (omega arith) | no d ↦ value-zero f w n i (omega arith) (lt_of_le-ne (omega arith) d) ]

pub value_none : (f : ℕ → ℕ) (w n : ℕ) → ((i : ℕ) → i < n → f (w + i) ≡ 0) → value f w n ≡ 0
unfolding value
value_none f w zero e = refl
value_none f w (suc n) e = omega (arith, value_none f w n (λ i h. e i (omega arith)), e n (omega arith))

-- a list by its places
pub listed-length : (f : ℕ → ℕ) (i n : ℕ) → length (listed f i n) ≡ n
unfolding listed
listed-length f i zero = refl
listed-length f i (suc n) = ap suc (listed-length f (suc i) n)

pub listed_at : (f : ℕ → ℕ) (i n k : ℕ) → k < n → get_or (listed f i n) k 0 ≡ f (i + k)
unfolding listed
listed_at f i zero k h = absurd (omega arith)
listed_at f i (suc n) zero h = ap f (sym (add-zero i))
listed_at f i (suc n) (suc k) h = listed_at f (suc i) n k (omega arith) ∙ rw (suc-add, add-suc)

-- the differences of two sums
pub sum-difference : (f g : ℕ → ℕ) (n : ℕ) → ((k : ℕ) → f k ≤ g k) → sum (λ k. g k - f k) n + sum f n ≡ sum g n
unfolding sum
sum-difference f g zero e = refl
sum-difference f g (suc n) e = omega (arith, sum-difference f g n e, e n)

-- a sum in two parts
pub sum-split : (f : ℕ → ℕ) (a b : ℕ) → sum f (a + b) ≡ sum f a + sum (λ k. f (a + k)) b
unfolding sum
sum-split f a zero = rw (add-zero a) (omega arith)
sum-split f a (suc b) = rw (add-suc a b) (omega (arith, sum-split f a b))

-- numbers of at most 1 add up to at most how many they are
pub sum-most : (f : ℕ → ℕ) (n : ℕ) → ((k : ℕ) → f k ≤ 1) → sum f n ≤ n
unfolding sum
sum-most f zero h = omega arith
sum-most f (suc n) h = omega (arith, sum-most f n h, h n)

pub sum_same : (f g : ℕ → ℕ) (n : ℕ) → ((k : ℕ) → k < n → f k ≡ g k) → sum f n ≡ sum g n
unfolding sum
sum_same f g zero e = refl
sum_same f g (suc n) e = omega (arith, sum_same f g n (λ k l. e k (omega arith)), e n (omega arith))

pub value-split : (f : ℕ → ℕ) (w a b : ℕ) → value f w (a + b) ≡ value f w a * 2 ^ b + value f (w + a) b
unfolding value
value-split f w a zero = rw (add-zero a) (omega arith)
value-split f w a (suc b) = rw (add-suc a b, pow-suc 2 b, ← add_assoc w a b) (omega (arith, value-split f w a b))

module _ (f : ℕ → ℕ) (w a : ℕ) where
  -- the last a + b bits of x are the wits from w on: the first a of them, and the last b
  pub value-front : (x b : ℕ) → ((k : ℕ) → f k < 2) → x % 2 ^ (a + b) ≡ value f w (a + b) → (x / 2 ^ b % 2 ^ a ≡ value f w a) × (x % 2 ^ b ≡ value f (w + a) b)
  value-front x b lt e =
      let q : x % 2 ^ (a + b) ≡ value f w a * 2 ^ b + value f (w + a) b = e ∙ value-split f w a b in
      let s : value f (w + a) b < 2 ^ b = value-lt f (w + a) b lt in
      (sym (field x a b) ∙ rw q (high (value f w a) b s), sym (mod-mod-pow x a b) ∙ rw q (low (value f w a) b s))
