-- Wits put into bytes: one byte, parts one behind the other, the last bytes, and a word in the place of another.
use mathlib.Core.Path.{◌≡◌, refl, sym, ◌∙◌}
use mathlib.Core.List.{List}
use Prim.Native.Nat.{ℕ, ◌+◌, ◌*◌, ◌-◌, ◌^◌, ◌/◌, ◌%◌, ◌≤◌, ◌<◌}
use native.Mathlib.Omega.{arith}
use native.Mathlib.Decide.{dec_lt}
use native.Mathlib.Nat.{mul-add, mod-eq_of_lt, div-one, mul-one, add-zero, mul_assoc, mod-lt, mul-mod_left, zero-mod, mod-mod, lt_of_lt_of_le}
use lib.Bits.{bit_or, or_shifted, or_mod, or_lt}
use lib.Pow.{shl_exact, shr-shr, shr_lt, shr_mod, high, low, split, mod-pow-add, pow_pos, pow_mono, pow-add, mod-mod-pow}
use lib.ListN.{length, set, length-set}
use lib.Seq.{get_or-set_same, get_or-set_other}
use Rattle.code.specs.Cells.{wit, value}
use Rattle.code.proofs.Wits.{wit-lt, wit-past}
use Rattle.code.proofs.Numbers.{value_same, value_none, value-lt, value-split, value-front}
use Rattle.cells.specs.Cells.{octet, PutWits, End, Roomy, blended, Swappable, Swapped}
use Rattle.cells.proofs.Octets.{octet-value, octet-twice}
use Rattle.cells.proofs.Values.{value_tells, shift-left}
use mathlib.Core.Logic.{inl, inr}
use lib.Count.{ones}
use Rattle.code.proofs.Tests.{le-or-lt}
use Rattle.cells.proofs.Counting.{put-turned}

pub put_byte : (o : ℕ) (bs : List ℕ) (i x y : ℕ) → i < length bs → y ≡ octet o (x % 256) → PutWits o bs (set bs i y) (8 * i) 8 x
unfolding wit
put_byte o bs i x y l e = record {
  long = length-set bs i y;
  made = octet-value o (set bs i y) i ∙ rw (get_or-set_same bs i y 0 l, e) (octet-twice o (x % 256) (omega arith));
  front = λ k h. rw (get_or-set_other bs i (k / 8) y 0 (λ q. omega arith));
  rest = λ k h. rw (get_or-set_other bs i (k / 8) y 0 (λ q. omega arith));
}

-- a wits, and b wits behind them
pub put-join : {o : ℕ} {bs cs ds : List ℕ} {p a b x : ℕ} → PutWits o bs cs p a (x / 2 ^ b) → PutWits o cs ds (p + a) b x → PutWits o bs ds p (a + b) x
put-join {o} {bs} {cs} {ds} {p} {a} {b} {x} P Q =
    let same : value (wit o ds) p a ≡ value (wit o cs) p a = value_same (wit o ds) (wit o cs) p a (λ i l. Q.front (p + i) (omega arith)) in
    record {
      long = Q.long ∙ P.long;
      made = rw (value-split (wit o ds) p a b, same, P.made, Q.made) (sym (mod-pow-add x a b));
      front = λ k l. Q.front k (omega arith) ∙ P.front k l;
      rest = λ k l. Q.rest k (omega arith) ∙ P.rest k (omega arith);
    }

-- a bytes, and b bytes behind them
pub put-bytes : {o : ℕ} {bs cs ds : List ℕ} (i a b x : ℕ) → PutWits o bs cs (8 * i) (8 * a) (x / 2 ^ (8 * b)) → PutWits o cs ds (8 * (i + a)) (8 * b) x
    → PutWits o bs ds (8 * i) (8 * (a + b)) x
put-bytes i a b x P Q = rw (mul-add 8 a b) (put-join {b = 8 * b} P (rw (mul-add 8 i a) at Q))

-- the first bytes of x, to byte i, are put from byte `at` on
pub record Putting (o : ℕ) (bs cs : List ℕ) (at i x : ℕ) : Type 0 where
  pub from : at ≤ i
  pub done : PutWits o bs cs (8 * at) (8 * (i - at)) (x / 2 ^ (8 * (at + 8 - i)))

pub putting-none : (o : ℕ) (bs : List ℕ) (at x : ℕ) → x < 2 ^ 64 → Putting o bs bs at at x
unfolding value
putting-none o bs at x h =
    let e : at - at ≡ 0 = omega arith in
    record { from = omega arith; done = rw e (record { long = refl; made = omega arith; front = λ k l. refl; rest = λ k l. refl }) }

pub putting-more : {o : ℕ} {bs cs ds : List ℕ} {at i x : ℕ} (y : ℕ) → Putting o bs cs at i x → i < at + 8 → y ≡ x / 2 ^ (8 * (at + 7 - i))
    → PutWits o cs ds (8 * i) 8 y → Putting o bs ds at (i + 1) x
putting-more {o} {bs} {cs} {ds} {at} {i} {x} y T l e P =
    let n : ℕ = 8 * (at + 7 - i) in
    let p : 8 * at + 8 * (i - at) ≡ 8 * i = omega (arith, T.from) in
    let q : 8 * (i + 1 - at) ≡ 8 * (i - at) + 8 = omega (arith, T.from) in
    let r : 8 * (at + 8 - (i + 1)) ≡ n = omega arith in
    let s : 8 * (at + 8 - i) ≡ n + 8 = omega arith in
    let t : x / 2 ^ (8 * (at + 8 - i)) ≡ y / 2 ^ 8 = rw (s, e) (sym (shr-shr x n 8)) in
    record { from = omega (arith, T.from); done = rw (q, r, ← e) (put-join {b = 8} (rw t at T.done) (rw (← p) at P)) }

-- the first byte
pub putting-first : {o : ℕ} {bs ds : List ℕ} {at x : ℕ} → x < 2 ^ 64 → PutWits o bs ds (8 * at) 8 (x / 2 ^ 56) → Putting o bs ds at (at + 1) x
putting-first {o} {bs} {ds} {at} {x} h P =
    let e : 8 * (at + 7 - at) ≡ 56 = omega arith in
    putting-more (x / 2 ^ 56) (putting-none o bs at x h) (omega arith) (rw e) P

-- the first bits of y and the first of x, as code has them
fronts-joined : (x y n : ℕ) → x < 2 ^ 64 → y < 2 ^ 64 → n ≤ 64 → bit_or (y / 2 ^ n * 2 ^ n % 2 ^ 64) (x / 2 ^ (64 - n)) ≡ y / 2 ^ n * 2 ^ n + x / 2 ^ (64 - n)
fronts-joined x y n hx hy l =
    let p : 64 - n + n ≡ 64 = omega arith in
    let q : n + (64 - n) ≡ 64 = omega arith in
    rw (shl_exact {a = y / 2 ^ n} (64 - n) n 64 (shr_lt (64 - n) n (rw p hy)) (omega arith))
    (or_shifted (y / 2 ^ n) n (x / 2 ^ (64 - n)) (shr_lt n (64 - n) (rw q hx)))

-- what is behind the last byte must be 0
module _ (o : ℕ) (bs cs : List ℕ) (at x : ℕ) (b : x < 2 ^ 64) (z : x % 2 ^ (8 * (at + 8 - length bs)) ≡ 0) where
  put_all : length cs ≡ length bs → (k : ℕ) → k ≡ 8 * (at + 8 - length bs) → k ≤ 64 → value (wit o cs) (8 * at) (64 - k) ≡ x / 2 ^ k
      → value (wit o cs) (8 * at) 64 ≡ x % 2 ^ 64
  put_all n k e l v =
      let g = wit o cs in
      let p : 64 - k + k ≡ 64 = omega arith in
      let w : ℕ = 8 * at + (64 - k) in
      let none : value g w k ≡ 0 = value_none g w k (λ d a. wit-past o cs (w + d) (omega arith)) in
      let y : x % 2 ^ k ≡ 0 = rw e z in
      let made : value g (8 * at) (64 - k + k) ≡ x = rw (value-split g (8 * at) (64 - k) k, v, none, ← y) (split x k) in
      rw p at made ∙ sym (mod-eq_of_lt b)

  pub putting-all : {i : ℕ} → Putting o bs cs at i x → End (length bs) at i → PutWits o bs cs (8 * at) 64 x
  putting-all {i} T E =
      let k : ℕ = 8 * (at + 8 - i) in
      let m : ℕ = 8 * (i - at) in
      let e : k ≡ 8 * (at + 8 - length bs) = elim (dec_lt i (at + 8)) [
        | yes u ↦ omega (arith, E.last u, E.inside)
        | no u ↦ omega
            (arith, E.near, E.inside)
      ] in
      let d : 64 - k ≡ m = omega (arith, E.near, T.from) in
      let s : x / 2 ^ k % 2 ^ m ≡ x / 2 ^ k = shr_mod m k (let q : m + k ≡ 64 = omega (arith, E.near, T.from) in rw q b) in
      record {
        long = T.done.long;
        made = put_all T.done.long k e (omega (arith, E.near, T.from)) (rw d (T.done.made ∙ s));
        front = T.done.front;
        rest = λ j l. T.done.rest j (omega (arith, E.near, T.from));
      }

  -- the last bytes, put with the bytes before them as the last eight
  pub put_last : (y n : ℕ) → at < length bs → length bs < at + 8 → 8 ≤ length bs → n ≡ 8 * (length bs - at) → y ≡ value (wit o bs) (8 * (length bs - 8)) 64
      → PutWits o bs cs (8 * (length bs - 8)) 64 (bit_or (y / 2 ^ n * 2 ^ n % 2 ^ 64) (x / 2 ^ (64 - n))) → PutWits o bs cs (8 * at) 64 x
  put_last y n l u s e v P =
      let f = wit o bs in
      let g = wit o cs in
      let w : ℕ = 8 * (length bs - 8) in
      let k : ℕ = 64 - n in
      let c : k + n ≡ 64 = omega arith in
      let c' : n + k ≡ 64 = omega arith in
      let q : w + k ≡ 8 * at = omega arith in
      let small : x / 2 ^ k < 2 ^ n = shr_lt n k (rw c' b) in
      let new : ℕ = y / 2 ^ n * 2 ^ n + x / 2 ^ k in
      let y-lt : y < 2 ^ 64 = rw v (value-lt f w 64 (wit-lt o bs)) in
      let a = value-front g w k new n (wit-lt o cs) (rw (c, ← fronts-joined x y n b y-lt (omega arith)) (sym P.made)) in
      let old = value-front f w k y n (wit-lt o bs) (rw c (mod-eq_of_lt y-lt ∙ v)) in
      let same : value g w k ≡ value f w k = sym a.0 ∙ rw (high (y / 2 ^ n) n small) old.0 in
      let here : value g (8 * at) n ≡ x / 2 ^ k = rw (← q) (sym a.1 ∙ low (y / 2 ^ n) n small) in
      let r : 64 - k ≡ n = omega arith in
      record {
        long = P.long;
        made = put_all P.long k (omega arith) (omega arith) (rw r here);
        front = λ j h. elim (dec_lt j w) [
          | yes t ↦ P.front j t
          | no t ↦ let d : w + (j - w) ≡ j = omega arith in rw d at (value_tells g f w k (wit-lt o cs) (wit-lt o bs) same (j - w) (omega arith))
        ];
        rest = λ j h. P.rest j (omega arith);
      }

-- a number whose last e bits are 0 has so any last bits of it
mod-none : (x c e : ℕ) → x % 2 ^ e ≡ 0 → x % 2 ^ c % 2 ^ e ≡ 0
mod-none x c e z = elim (le-or-lt e c) [
  | inl l ↦ let p : c - e + e ≡ c = omega arith in rw p at (mod-mod-pow x (c - e) e) ∙ z
  | inr l ↦ let p : e - c + c ≡ e = omega arith in rw (← (rw p at (mod-mod-pow x (e - c) c)), z, zero-mod, zero-mod)
]

-- the word w without its last d bits
abbrev kept : ℕ → ℕ → ℕ
kept w d = w / 2 ^ d * 2 ^ d

blended-is : (w d old t c : ℕ) → t + c ≡ 64 → blended w d old c ≡ kept w d % 2 ^ t * 2 ^ c + old % 2 ^ c
blended-is w d old t c whole =
    let e : w / 2 ^ d * 2 ^ (d + c) ≡ kept w d * 2 ^ c = rw (pow-add 2 d c) (sym (mul_assoc (w / 2 ^ d) (2 ^ d) (2 ^ c))) in
    let s : kept w d * 2 ^ c % 2 ^ 64 ≡ kept w d % 2 ^ t * 2 ^ c = rw whole at (shift-left (kept w d) t c) in
    rw (e, s) (or_shifted (kept w d % 2 ^ t) c (old % 2 ^ c) (mod-lt old (pow_pos c)))

blended-none : (w d old c e : ℕ) → e ≤ d + c → old % 2 ^ e ≡ 0 → blended w d old c % 2 ^ e ≡ 0
blended-none w d old c e l z =
    let x : ℕ = w / 2 ^ d * 2 ^ (d + c) in
    let y : ℕ = w / 2 ^ d * 2 ^ (d + c - e) in
    let p : d + c - e + e ≡ d + c = omega arith in
    let q : x ≡ y * 2 ^ e = rw (mul_assoc (w / 2 ^ d) (2 ^ (d + c - e)) (2 ^ e), ← pow-add 2 (d + c - e) e, p) in
    let r : x % 2 ^ e ≡ 0 = rw q (mul-mod_left y (2 ^ e)) in
    or_mod (x % 2 ^ 64) (old % 2 ^ c) e ∙ rw (mod-none x 64 e r, mod-none old c e z)

-- putting it changes the word's wits alone
module _ (o : ℕ) (bs cs : List ℕ) (at size d w old : ℕ) (S : Swappable bs at size d) (is : old ≡ value (wit o bs) (8 * at) 64) where
  pub swap-roomy : Roomy bs at (blended w d old (64 - 8 * size))
  swap-roomy =
      let f = wit o bs in
      let e : ℕ = 8 * (at + 8 - length bs) in
      let p : 64 - e + e ≡ 64 = omega (arith, S.inside) in
      let none : value f (8 * at + (64 - e)) e ≡ 0 = value_none f (8 * at + (64 - e)) e
      (λ k l. wit-past o bs (8 * at + (64 - e) + k) (omega (arith, S.inside))) in
      let q : old ≡ value f (8 * at) (64 - e) * 2 ^ e = is ∙ (let r : value f (8 * at) (64 - e + e) ≡ value f (8 * at) (64 - e) * 2 ^ e = rw
      (value-split f (8 * at) (64 - e) e, none, add-zero) in rw p at r) in
      let z : old % 2 ^ e ≡ 0 = rw q (mul-mod_left (value f (8 * at) (64 - e)) (2 ^ e)) in
      record { inside = S.inside; short = S.short; none = blended-none w d old (64 - 8 * size) e (omega (arith, S.over, S.most)) z }

  swap-done : PutWits o bs cs (8 * at) 64 (blended w d old (64 - 8 * size)) → PutWits o bs cs (8 * at) (8 * size) (kept w d)
  swap-done P =
      let f = wit o bs in
      let g = wit o cs in
      let p : ℕ = 8 * at in
      let t : ℕ = 8 * size in
      let c : ℕ = 64 - t in
      let whole : t + c ≡ 64 = omega (arith, S.most) in
      let small : old % 2 ^ c < 2 ^ c = mod-lt old (pow_pos c) in
      let a = value-front g p t (blended w d old c) c (wit-lt o cs) (rw whole (sym P.made)) in
      let b = value-front f p t old c (wit-lt o bs) (rw whole (mod-eq_of_lt (rw is (value-lt f p 64 (wit-lt o bs))) ∙ is)) in
      let m = blended-is w d old t c whole in
      let same : value g (p + t) c ≡ value f (p + t) c = sym a.1 ∙ rw m (low (kept w d % 2 ^ t) c small) ∙ b.1 in
      record {
        long = P.long;
        made = sym a.0 ∙ rw (m, high (kept w d % 2 ^ t) c small) (mod-mod (kept w d) (2 ^ t));
        front = P.front;
        rest = λ k l. elim (dec_lt k (p + 64)) [
          | yes u ↦ let q : p + t + (k - (p + t)) ≡ k = omega arith in rw q at
              (value_tells g f (p + t) c (wit-lt o cs) (wit-lt o bs) same (k - (p + t)) (omega arith))
          | no u ↦ P.rest k (omega arith)
        ];
      }

  pub swap_is : (x r : ℕ) → x ≡ blended w d old (64 - 8 * size) → PutWits o bs cs (8 * at) 64 x → (r ≡ ones (bit_or x old - old)) × (r ≤ 64)
      → Swapped o bs cs (8 * at) (8 * size) d w r
  swap_is x r e P n =
      let c : ℕ = 64 - 8 * size in
      let y : ℕ = w / 2 ^ d * 2 ^ (d + c) % 2 ^ 64 in
      let b : old % 2 ^ c < 2 ^ 64 = lt_of_lt_of_le (mod-lt old (pow_pos c)) (pow_mono {j = 64} (omega arith)) in
      let small : x < 2 ^ 64 = rw e (or_lt 64 y (old % 2 ^ c) (mod-lt (w / 2 ^ d * 2 ^ (d + c)) (pow_pos 64)) b) in
      record { done = swap-done (rw e at P); count = n.0 ∙ sym (put-turned P ∙ rw (P.made, mod-eq_of_lt small, ← is)); few = n.1 }

-- eight bytes
pub swap-all : (bs cs : List ℕ) (at w old r : ℕ) → w < 2 ^ 64 → old ≡ value (wit 0 bs) (8 * at) 64 → PutWits 0 bs cs (8 * at) 64 w
    → (r ≡ ones (bit_or w old - old)) × (r ≤ 64)
    → Swapped 0 bs cs (8 * at) 64 0 w r
swap-all bs cs at w old r b is P n =
    let e : w / 2 ^ 0 * 2 ^ 0 ≡ w = rw (div-one w) (mul-one w) in
    record { done = rw e P; count = n.0 ∙ sym (put-turned P ∙ rw (P.made, mod-eq_of_lt b, ← is)); few = n.1 }
