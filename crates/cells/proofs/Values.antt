-- The number that wits make, by its parts, and bytes put together to such numbers.
use mathlib.Core.Path.{◌≡◌, sym, ap, ◌∙◌}
use mathlib.Core.List.{List}
use Prim.Native.Nat.{ℕ, ◌+◌, ◌*◌, ◌-◌, ◌^◌, ◌/◌, ◌%◌, ◌≤◌, ◌<◌}
use native.Mathlib.Omega.{arith}
use native.Mathlib.Nat.{add-zero, mul-add, sub_self, lt_of_lt_of_le, mul-mod_left, mod-eq_of_lt}
use lib.Pow.{pow_mono, shl_exact, shl-shr, mod-pow-add, high}
use lib.ListN.{length, get_or}
use Rattle.code.specs.Cells.{wit, value}
use Rattle.code.proofs.Numbers.{bit, value-lt, value-bit, value_none, value-split, value-front}
use Rattle.code.proofs.Wits.{Bytes, wit-lt, wit-past}
use Rattle.cells.specs.Cells.{octet, Start}
use Rattle.cells.proofs.Octets.{octet-high, octet-value}

-- wits that make the same number are the same
pub value_tells : (f g : ℕ → ℕ) (w n : ℕ) → ((k : ℕ) → f k < 2) → ((k : ℕ) → g k < 2) → value f w n ≡ value g w n → (i : ℕ) → i < n → f (w + i) ≡ g (w + i)
value_tells f g w n a b e i l = sym (value-bit f w i (n - 1 - i) n a (omega arith)) ∙ ap (bit (n - 1 - i)) e ∙ value-bit g w i (n - 1 - i) n b (omega arith)

module _ (o : ℕ) (bs : List ℕ) where
  -- a bytes from byte i on, and b bytes behind them
  pub joined : (i a b x y : ℕ) → x ≡ value (wit o bs) (8 * i) (8 * a) → y ≡ value (wit o bs) (8 * (i + a)) (8 * b)
      → (x * 2 ^ (8 * b) + y ≡ value (wit o bs) (8 * i) (8 * (a + b))) × (x * 2 ^ (8 * b) + y < 2 ^ (8 * (a + b)))
  joined i a b x y ex ey =
      let f = wit o bs in
      let e : x * 2 ^ (8 * b) + y ≡ value f (8 * i) (8 * (a + b)) = rw (mul-add 8 a b, value-split f (8 * i) (8 * a) (8 * b), ← mul-add 8 i a, ex, ey) in
      (e, rw e (value-lt f (8 * i) (8 * (a + b)) (wit-lt o bs)))

  -- x is the number of the bytes from byte `at` to byte i
  pub record Reading (at i x : ℕ) : Type 0 where
    pub from : at ≤ i
    pub made : x ≡ value (wit o bs) (8 * at) (8 * (i - at))

  pub reading-none : (at : ℕ) → Reading at at 0
  unfolding value
  reading-none at = record { from = omega arith; made = rw (sub_self at) }

  module _ {at i x : ℕ} (R : Reading at i x) where
    -- fewer than eight bytes leave room for one more
    pub reading-fits : i < at + 8 → x < 2 ^ 56
    reading-fits l = rw R.made (lt_of_lt_of_le (value-lt (wit o bs) (8 * at) (8 * (i - at)) (wit-lt o bs)) (pow_mono {j = 56} (omega (arith, R.from))))

    pub reading-more : (y : ℕ) → y ≡ octet o (get_or bs i 0) → Reading at (i + 1) (x * 256 + y)
    reading-more y e =
        let p : at + (i - at) ≡ i = omega (arith, R.from) in
        let q : i + 1 - at ≡ i - at + 1 = omega (arith, R.from) in
        record { from = omega (arith, R.from); made = rw q (joined at (i - at) 1 x y R.made (rw p (e ∙ sym (octet-value o bs i)))).0 }

    -- what is behind the last byte is 0
    pub reading-all : (end : ℕ) → i ≡ end → at < end → end ≤ at + 8 → (end < at + 8 → length bs ≤ end)
        → x * 2 ^ (8 * (at + 8 - end)) % 2 ^ 64 ≡ value (wit o bs) (8 * at) 64
    reading-all end e l u z =
        let f = wit o bs in
        let k : ℕ = 8 * (at + 8 - end) in
        let j : ℕ = 8 * (end - at) in
        let p : j + k ≡ 64 = omega arith in
        let q : 8 * at + j ≡ 8 * end = omega arith in
        let v : x ≡ value f (8 * at) j = rw e at R.made in
        let none : value f (8 * end) k ≡ 0 = value_none f (8 * end) k (λ d a. wit-past o bs (8 * end + d) (omega (arith, z (omega arith)))) in
        rw (← p, value-split f (8 * at) j k, q, none, add-zero, ← v) (shl_exact {a = x} j k 64 (rw v (value-lt f (8 * at) j (wit-lt o bs))) (omega arith))

  -- the first byte
  pub reading-first : (at y : ℕ) → y ≡ octet o (get_or bs at 0) → Reading at (at + 1) y
  reading-first at y e = let p : 0 * 256 + y ≡ y = omega arith in rw p at (reading-more (reading-none at) y e)

-- with the high bit first, four bytes
pub quad : (bs : List ℕ) (i x y z w : ℕ) → Bytes bs → i + 4 ≤ length bs → x ≡ get_or bs i 0 → y ≡ get_or bs (i + 1) 0 → z ≡ get_or bs (i + 2) 0
    → w ≡ get_or bs (i + 3) 0
    → (x * 16777216 + y * 65536 + z * 256 + w ≡ value (wit 0 bs) (8 * i) 32) × (x * 16777216 + y * 65536 + z * 256 + w < 2 ^ 32)
quad bs i x y z w B l ex ey ez ew =
    let byte : (j v : ℕ) → j < length bs → v ≡ get_or bs j 0 → v ≡ octet 0 (get_or bs j 0) = λ j v h e. e ∙ sym (octet-high (get_or bs j 0) (B j h)) in
    let s : i + 1 + 1 ≡ i + 2 = omega arith in
    let t : i + 2 + 1 ≡ i + 3 = omega arith in
    let a = reading-more 0 bs (reading-none 0 bs i) x (byte i x (omega arith) ex) in
    let b = reading-more 0 bs a y (byte (i + 1) y (omega arith) ey) in
    let c = reading-more 0 bs (rw s at b) z (byte (i + 2) z (omega arith) ez) in
    let d = reading-more 0 bs (rw t at c) w (byte (i + 3) w (omega arith) ew) in
    let n : i + 3 + 1 - i ≡ 4 = omega arith in
    let e : (((0 * 256 + x) * 256 + y) * 256 + z) * 256 + w ≡ x * 16777216 + y * 65536 + z * 256 + w = omega arith in
    let m : x * 16777216 + y * 65536 + z * 256 + w ≡ value (wit 0 bs) (8 * i) 32 = rw (e, n) at d.made in
    (m, rw m (value-lt (wit 0 bs) (8 * i) 32 (wit-lt 0 bs)))

-- moved to the left, with what falls out lost
pub shift-left : (x j k : ℕ) → x * 2 ^ k % 2 ^ (j + k) ≡ x % 2 ^ j * 2 ^ k
shift-left x j k = mod-pow-add (x * 2 ^ k) j k ∙ rw (shl-shr x k, mul-mod_left x (2 ^ k), add-zero)

-- the bytes from byte `at` on, of eight that start before
pub from_start : (bs : List ℕ) (at start x : ℕ) → Start (length bs) at start → x ≡ value (wit 0 bs) (8 * start) 64
    → x * 2 ^ (8 * (at - start)) % 2 ^ 64 ≡ value (wit 0 bs) (8 * at) 64
from_start bs at start x S e =
    let f = wit 0 bs in
    let k : ℕ = 8 * (at - start) in
    let j : ℕ = 64 - k in
    let p : j + k ≡ 64 = omega (arith, S.near) in
    let p' : k + j ≡ 64 = omega (arith, S.near) in
    let q : 8 * start + k ≡ 8 * at = omega (arith, S.before) in
    let t : x % 2 ^ (k + j) ≡ value f (8 * start) (k + j) = rw p' (mod-eq_of_lt (rw e (value-lt f (8 * start) 64 (wit-lt 0 bs))) ∙ e) in
    let v : x % 2 ^ j ≡ value f (8 * at) j = rw q at (value-front f (8 * start) k x j (wit-lt 0 bs) t).1 in
    let none : value f (8 * at + j) k ≡ 0 = value_none f (8 * at + j) k
    (λ d a. wit-past 0 bs (8 * at + j + d) (omega (arith, S.last (omega arith), S.before, S.near))) in
    let left : x * 2 ^ k % 2 ^ (j + k) ≡ value f (8 * at) (j + k) = shift-left x j k ∙ rw (v, value-split f (8 * at) j k, none, add-zero) in
    rw p at left

-- the first bytes of eight
pub first-bytes : (o : ℕ) (bs : List ℕ) (at size : ℕ) {x : ℕ} → size ≤ 8 → x ≡ value (wit o bs) (8 * at) 64
    → x / 2 ^ (64 - 8 * size) ≡ value (wit o bs) (8 * at) (8 * size)
first-bytes o bs at size {x} l e =
    let f = wit o bs in
    let t : ℕ = 8 * size in
    let c : ℕ = 64 - t in
    let p : t + c ≡ 64 = omega arith in
    let s : x ≡ value f (8 * at) t * 2 ^ c + value f (8 * at + t) c = e ∙ (let v = value-split f (8 * at) t c in rw p at v) in
    rw s (high (value f (8 * at) t) c (value-lt f (8 * at + t) c (wit-lt o bs)))
