-- The eight wits of a byte: read as a number, and made of one. Only the laws of `place` look at the order.
use mathlib.Core.Path.{◌≡◌, refl, sym, ◌∙◌}
use mathlib.Core.Logic.{◌≢◌}
use mathlib.Core.List.{List}
use Prim.Native.Nat.{ℕ, zero, suc, ◌+◌, ◌*◌, ◌-◌, ◌^◌, ◌/◌, ◌%◌, ◌≤◌, ◌<◌}
use native.Mathlib.Omega.{arith}
use native.Mathlib.Nat.{zero-add, div-one, mod-eq_of_lt}
use lib.ListN.{length, get_or}
use Rattle.code.specs.Cells.{bit_place, wit, value}
use Rattle.code.proofs.Numbers.{bit, bit-lt, value-lt, value-bit, value-is, value-front}
use Rattle.code.proofs.Wits.{place-lt, place_byte, wit-lt}
use Rattle.cells.specs.Cells.{octet}

pub octet-lt : (o b : ℕ) → octet o b < 256
unfolding octet
octet-lt o b = value-lt (λ k. bit (bit_place o k) b) 0 8 (λ k. bit-lt (bit_place o k) b)

-- with the high bit first it is the byte itself, and all other orders are one
pub octet-high : (b : ℕ) → b < 256 → octet 0 b ≡ b
unfolding octet bit_place
octet-high b h = value-is (λ k. bit (7 - k % 8) b) 0 8 b (λ k. bit-lt (7 - k % 8) b) h
    (λ i l. let e : 7 - (0 + i) % 8 ≡ 8 - 1 - i = omega arith in rw e)

pub octet-low : (o b : ℕ) → o ≢ 0 → octet 1 b ≡ octet o b
unfolding octet bit_place
octet-low zero b ne = absurd (ne refl)
octet-low (suc o) b ne = refl

in-twos : (a b c d e f g h : ℕ)
    → a * 128 + b * 64 + c * 32 + d * 16 + e * 8 + f * 4 + g * 2 + h ≡ 2 * (2 * (2 * (2 * (2 * (2 * (2 * (2 * 0 + a) + b) + c) + d) + e) + f) + g) + h
in-twos a b c d e f g h = omega arith

pub mirrored : (x : ℕ)
    → x % 2 * 128 + x / 2 % 2 * 64 + x / 4 % 2 * 32 + x / 8 % 2 * 16 + x / 16 % 2 * 8 + x / 32 % 2 * 4 + x / 64 % 2 * 2 + x / 128 % 2 ≡ octet 1 x
unfolding octet value bit_place
mirrored x = rw (div-one x) (in-twos (x % 2) (x / 2 % 2) (x / 4 % 2) (x / 8 % 2) (x / 16 % 2) (x / 32 % 2) (x / 64 % 2) (x / 128 % 2))

-- the eight wits of byte i
pub octet-value : (o : ℕ) (bs : List ℕ) (i : ℕ) → value (wit o bs) (8 * i) 8 ≡ octet o (get_or bs i 0)
unfolding octet wit
octet-value o bs i = value-is (wit o bs) (8 * i) 8 (octet o (get_or bs i 0)) (wit-lt o bs) (octet-lt o (get_or bs i 0))
    (λ k l.
    let b = get_or bs i 0 in
    let p : (8 * i + k) / 8 ≡ i = omega arith in
    let q : bit (8 - 1 - k) (octet o b) ≡ bit (bit_place o k) b = rw (zero-add k) at
    (value-bit (λ j. bit (bit_place o j) b) 0 k (8 - 1 - k) 8 (λ j. bit-lt (bit_place o j) b) (omega arith)) in
    rw (p, place_byte o i k) (sym q))

-- the bits of a number turned to a byte, at their places
place-back : (o k : ℕ) → k < 8 → bit_place o (7 - bit_place o k) ≡ 7 - k
unfolding bit_place
place-back zero k h = omega arith
place-back (suc o) k h = omega arith

octet-bit : (o x k : ℕ) → k < 8 → bit (bit_place o k) (octet o x) ≡ bit (7 - k) x
unfolding octet
octet-bit o x k h =
    let l : bit_place o k < 8 = place-lt o k in
    value-bit (λ j. bit (bit_place o j) x) 0 (7 - bit_place o k) (bit_place o k) 8 (λ j. bit-lt (bit_place o j) x) (omega arith) ∙ rw (zero-add, place-back o k h)

-- turning round twice changes nothing
pub octet-twice : (o x : ℕ) → x < 256 → octet o (octet o x) ≡ x
unfolding octet
octet-twice o x h = value-is (λ k. bit (bit_place o k) (octet o x)) 0 8 x (λ k. bit-lt (bit_place o k) (octet o x)) h (λ k l. rw (zero-add k) (octet-bit o x k l))

-- the last wits of byte i
pub octet-last : (o : ℕ) (bs : List ℕ) (i n : ℕ) → n ≤ 8 → octet o (get_or bs i 0) % 2 ^ n ≡ value (wit o bs) (8 * i + (8 - n)) n
octet-last o bs i n l =
    let x : ℕ = octet o (get_or bs i 0) in
    let p : 8 - n + n ≡ 8 = omega arith in
    (value-front (wit o bs) (8 * i) (8 - n) x n (wit-lt o bs) (rw p (mod-eq_of_lt (octet-lt o (get_or bs i 0)) ∙ sym (octet-value o bs i)))).1

-- the bits left over, of the last byte
pub left_over : (o : ℕ) (bs : List ℕ) (w r : ℕ) → w ≤ 8 * length bs → 8 * length bs ≤ w + 8 → 0 < length bs
    → r ≡ octet o (get_or bs (length bs - 1) 0) % 2 ^ (8 * length bs - w)
    → r ≡ value (wit o bs) w (8 * length bs - w)
left_over o bs w r l u s e =
    let p : 8 * (length bs - 1) + (8 - (8 * length bs - w)) ≡ w = omega arith in
    e ∙ rw p at (octet-last o bs (length bs - 1) (8 * length bs - w) (omega arith))
