-- What a loop over the groups of a number knows, and what the loops over numbers know.
use mathlib.Core.Path.{◌≡◌, refl, sym, ap, ◌∙◌}
use mathlib.Core.Logic.{inl, inr}
use mathlib.Core.List.{List, ◌∷◌, [], ◌++◌, append-nil}
use Prim.Native.Nat.{ℕ, zero, suc, ◌+◌, ◌*◌, ◌-◌, ◌^◌, ◌≤◌, ◌<◌}
use native.Mathlib.Omega.{arith}
use native.Mathlib.Nat.{pow-suc, pow-le-pow_right, mul-le-mul_right, le_antisymm, sub-zero}
use native.Mathlib.Numerals.{add-one, one-add}
use lib.Arith.{lt_of_le-ne}
use lib.ListN.{length, get_or, drop, drop_of_length-le, take, set, length-set}
use lib.Seq.{drop-cons, take_all, take-suc-set}
use Rattle.code.specs.Numerals.{Numeral, malformed, numeral, longer, read_sevens, Numbers, cut, numbers, preceded, read_numbers}
use Rattle.code.proofs.Tests.{le-or-lt}
use Rattle.code.proofs.Numerals.{read-last, read_more}
use Rattle.code.proofs.Records.{numbers-one, numbers-cut}
use Rattle.numerals.specs.Number.{number_of}
use Rattle.numerals.specs.declared.Number.{Number}
use Rattle.std.proofs.Common.{None, Some}

-- what is read behind k groups that come to `value`, their top bits set; 0 behind them is not shortest
unfoldable pub after : ℕ → ℕ → ℕ → Numeral → Numeral
after value worth k malformed = malformed
after value worth k (numeral zero n) = malformed
after value worth k (numeral (suc x) n) = numeral (value + x * worth + worth) (k + n)

after-some : (value worth k x n : ℕ) → 0 < x → after value worth k (numeral x n) ≡ numeral (value + x * worth) (k + n)
unfolding after
after-some value worth k zero n h = absurd (omega arith)
after-some value worth k (suc x) n h = let e : value + x * worth + worth ≡ value + suc x * worth = omega arith in rw e

after_one : (b : ℕ) (r : Numeral) → longer b r ≡ after (b - 128) 128 1 r
unfolding longer after
after_one b malformed = refl
after_one b (numeral zero n) = refl
after_one b (numeral (suc x) n) = let e : b - 128 + 128 * suc x ≡ b - 128 + x * 128 + 128 = omega arith in rw (e, one-add)

after_more : (value worth k b : ℕ) (r : Numeral) → after value worth k (longer b r) ≡ after (value + (b - 128) * worth) (worth * 128) (suc k) r
unfolding longer after
after_more value worth k b malformed = refl
after_more value worth k b (numeral zero n) = refl
after_more value worth k b (numeral (suc x) n) =
    let e : value + (b - 128 + 128 * suc x) * worth ≡ value + (b - 128) * worth + x * (worth * 128) + worth * 128 = omega arith in
    let s : k + suc n ≡ suc k + n = omega arith in
    rw (after-some value worth k (b - 128 + 128 * suc x) (suc n) (omega arith), e, s)

-- where the loop stands at place i: k groups are read, the next of which counts for `worth`
pub record Reading (bytes : List ℕ) (at value worth i : ℕ) : Type 0 where
  pub k : ℕ
  pub place : i ≡ at + k
  pub most : k ≤ 8
  pub power : worth ≡ 128 ^ k
  pub small : value < worth
  pub large : worth ≤ 2 ^ 56
  pub same : read_sevens 9 (drop at bytes) ≡ after value worth k (read_sevens (suc (8 - k)) (drop i bytes))

pub reading-begin : (bytes : List ℕ) (at low : ℕ) → at < length bytes → get_or bytes at 0 ≡ low + 128 → low < 128 → Reading bytes at low 128 (at + 1)
reading-begin bytes at low inside e small = record {
  k = 1;
  place = refl;
  most = omega arith;
  power = refl;
  small = small;
  large = omega arith;
  same =
      let d : get_or bytes at 0 - 128 ≡ low = omega arith in
      rw (add-one at, drop-cons bytes at 0 inside, read_more 8 (get_or bytes at 0) (drop (suc at) bytes) (omega arith), after_one, d);
}

module _ {bytes : List ℕ} {at value worth i : ℕ} (r : Reading bytes at value worth i) where
  -- the byte at the place and what is behind it
  ahead : i < length bytes → read_sevens 9 (drop at bytes) ≡ after value worth r.k (read_sevens (suc (8 - r.k)) (get_or bytes i 0 ∷ drop (suc i) bytes))
  ahead inside = rw (drop-cons bytes i 0 inside) at r.same

  pub reading-cut : length bytes ≤ i → read_sevens 9 (drop at bytes) ≡ malformed
  unfolding after read_sevens
  reading-cut out = rw (r.same, drop_of_length-le bytes out)

  pub reading-zero : i < length bytes → get_or bytes i 0 ≡ 0 → read_sevens 9 (drop at bytes) ≡ malformed
  unfolding after
  reading-zero inside e = rw (ahead inside, read-last (8 - r.k) (get_or bytes i 0) (drop (suc i) bytes) (omega arith), e)

  pub reading-last : i < length bytes → 0 < get_or bytes i 0 → get_or bytes i 0 < 128 →
      read_sevens 9 (drop at bytes) ≡ numeral (value + get_or bytes i 0 * worth) (r.k + 1)
  reading-last inside some low =
      rw (ahead inside, read-last (8 - r.k) (get_or bytes i 0) (drop (suc i) bytes) low, after-some value worth r.k (get_or bytes i 0) 1 some)

  below : r.k < 8 → 128 ^ r.k ≤ 2 ^ 49
  below h = pow-le-pow_right {n = 128} (omega arith) {i = r.k} {j = 7} (omega arith)

  pub reading-tenth : i < length bytes → 128 ≤ get_or bytes i 0 → worth ≡ 2 ^ 56 → read_sevens 9 (drop at bytes) ≡ malformed
  unfolding after longer read_sevens
  reading-tenth inside high ninth =
      let e : r.k ≡ 8 = le_antisymm r.most (elim (le-or-lt 8 r.k) [ inl h ↦ h | inr h ↦ absurd (omega (arith, r.power, below h)) ]) in
      rw (ahead inside, read_more (8 - r.k) (get_or bytes i 0) (drop (suc i) bytes) high, e)

  pub reading-next : i < length bytes → 128 ≤ get_or bytes i 0 → get_or bytes i 0 < 256 → worth < 2 ^ 56 →
      Reading bytes at (value + (get_or bytes i 0 - 128) * worth) (worth * 128) (i + 1)
  reading-next inside high byte before =
      let b : ℕ = get_or bytes i 0 in
      let most : r.k < 8 = lt_of_le-ne r.most (λ e. absurd (omega (arith, r.power, ap (λ n. 128 ^ n) e))) in
      let left : 8 - r.k ≡ suc (8 - suc r.k) = omega arith in
      let behind = drop (suc i) bytes in
      record {
        k = suc r.k;
        place = omega (arith, r.place);
        most = most;
        power = ap (λ w. w * 128) r.power ∙ sym (pow-suc 128 r.k);
        small = omega (arith, r.small, mul-le-mul_right {m = b - 128} {n = 127} worth (omega arith));
        large = omega (arith, r.power, below most);
        same = rw (add-one i, ahead inside, read_more (8 - r.k) b behind high, after_more value worth r.k b (read_sevens (8 - r.k) behind), left);
      }

-- what is read, led by the numbers xs
unfoldable pub led_by : List ℕ → Numbers → Numbers
led_by [] r = r
led_by (x ∷ xs) r = preceded x (led_by xs r)

led-more : (xs : List ℕ) (x : ℕ) (r : Numbers) → led_by (xs ++ (x ∷ [])) r ≡ led_by xs (preceded x r)
unfolding led_by
led-more [] x r = refl
led-more (y ∷ xs) x r = ap (preceded y) (led-more xs x r)

led-cut : (xs : List ℕ) → led_by xs cut ≡ cut
unfolding led_by preceded
led-cut [] = refl
led-cut (x ∷ xs) = rw (led-cut xs)

led-all : (xs ys : List ℕ) (end : ℕ) → led_by xs (numbers ys end) ≡ numbers (xs ++ ys) end
unfolding led_by preceded
led-all [] ys end = refl
led-all (x ∷ xs) ys end = rw (led-all xs ys end)

-- a number that is found, and one that is not
found : (bytes : List ℕ) (at k : ℕ) (x : Number) → Some x ≡ number_of at (read_sevens 9 (drop at bytes)) →
    read_numbers (suc k) bytes at ≡ preceded x.value (read_numbers k bytes x.next)
found bytes at k x e = go (read_sevens 9 (drop at bytes)) refl e
  where
    go : (r : Numeral) → read_sevens 9 (drop at bytes) ≡ r → Some x ≡ number_of at r → read_numbers (suc k) bytes at ≡ preceded x.value (read_numbers k bytes x.next)
    go malformed q e = absurd (cc)
    go (numeral y n) q e =
        let x-is : x ≡ record { value = y; next = at + n } = cc in
        rw x-is (numbers-one k bytes at y n q)

lost : (bytes : List ℕ) (at k : ℕ) → None ≡ number_of at (read_sevens 9 (drop at bytes)) → read_numbers (suc k) bytes at ≡ cut
lost bytes at k e = go (read_sevens 9 (drop at bytes)) refl e
  where
    go : (r : Numeral) → read_sevens 9 (drop at bytes) ≡ r → None ≡ number_of at r → read_numbers (suc k) bytes at ≡ cut
    go malformed q e = numbers-cut k bytes at q
    go (numeral y n) q e = absurd (cc)

-- the first i of k numbers are read, and `next` is the place behind them
pub record Heading (k : ℕ) (bytes : List ℕ) (at : ℕ) (xs : List ℕ) (next i : ℕ) : Type 0 where
  pub long : length xs ≡ k
  pub most : i ≤ k
  pub reads : read_numbers k bytes at ≡ led_by (take i xs) (read_numbers (k - i) bytes next)

pub heading-begin : (bytes : List ℕ) (at : ℕ) (xs : List ℕ) → Heading (length xs) bytes at xs at 0
unfolding led_by
heading-begin bytes at xs = record { long = refl; most = omega arith; reads = rw sub-zero refl }

module _ {k : ℕ} {bytes : List ℕ} {at : ℕ} {xs : List ℕ} {next i : ℕ} (h : Heading k bytes at xs next i) where
  pub heading-next : (x : Number) → i < k → Some x ≡ number_of next (read_sevens 9 (drop next bytes)) → Heading k bytes at (set xs i x.value) x.next (i + 1)
  heading-next x l e =
      let s : k - i ≡ suc (k - suc i) = omega arith in
      record {
        long = length-set xs i x.value ∙ h.long;
        most = omega arith;
        reads = rw (add-one i, take-suc-set xs i x.value (omega (arith, h.long)), led-more, ← found bytes next (k - suc i) x e, ← s) h.reads;
      }

  pub heading-cut : i < k → None ≡ number_of next (read_sevens 9 (drop next bytes)) → cut ≡ read_numbers k bytes at
  heading-cut l e =
      let s : k - i ≡ suc (k - suc i) = omega arith in
      rw (h.reads, s, lost bytes next (k - suc i) e, led-cut)

  pub heading-end : k ≤ i → numbers xs next ≡ read_numbers k bytes at
  unfolding read_numbers
  heading-end l =
      let s : k - i ≡ 0 = omega arith in
      rw (h.reads, s, take_all i xs (omega (arith, h.long)), led-all xs [] next, append-nil)
