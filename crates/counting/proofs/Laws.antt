-- Laws of binomials and of the sums of patterns. Assumes nothing.
use mathlib.Core.Path.{◌≡◌, refl, ap, ◌∙◌}
use mathlib.Core.Logic.{inl, inr}
use Prim.Native.Nat.{ℕ, zero, suc, ◌+◌, ◌-◌, ◌*◌, ◌/◌, ◌^◌, ◌≤◌, ◌<◌}
use native.Mathlib.Nat.{pow-zero, pow-suc, mul-le-mul, mul-le-mul_left, mul-pos, le_of_mul-le-mul_right, le-mul_of_pos_right, mul-sub}
use native.Mathlib.Nat.{div-eq_of_eq-mul_left, div-lt_iff_lt-mul}
use native.Mathlib.Numerals.{add-one}
use native.Mathlib.Omega.{arith}
use Rattle.code.specs.Count.{choose, fewer}
use Rattle.code.proofs.Count.{fewer-none, fewer-step, fewer-grows}
use Rattle.code.proofs.Tests.{le-or-lt}
use Rattle.counting.specs.Cap.{cap, sat}
use Rattle.counting.specs.Falling.{falling}
use Rattle.counting.specs.Sums.{SumSoFar}

pub choose-above : (n k : ℕ) → n < k → choose n k ≡ 0
unfolding choose
choose-above n zero h = omega arith
choose-above zero (suc k) h = refl
choose-above (suc n) (suc k) h = omega (arith, choose-above n k (omega arith), choose-above n (suc k) (omega arith))

-- C(n, j + 1) · (j + 1) is C(n, j) · (n − j), here with no difference
absorb : (n j : ℕ) → choose n (suc j) * suc j + choose n j * j ≡ choose n j * n
unfolding choose
absorb zero zero = refl
absorb zero (suc j) = omega arith
absorb (suc n) zero = omega (arith, absorb n 0)
absorb (suc n) (suc j) = omega (arith, absorb n j, absorb n (suc j))

pub absorption : (n j : ℕ) → j ≤ n → choose n (suc j) * suc j ≡ choose n j * (n - j)
absorption n j h = rw mul-sub (omega (arith, absorb n j))

-- the row reads the same from both ends
mirror : (n a b : ℕ) → a + b ≡ n → choose n a ≡ choose n b
unfolding choose
mirror zero a b e = let p : a ≡ 0 = omega arith in let q : b ≡ 0 = omega arith in rw (p, q)
mirror (suc n) zero zero e = refl
mirror (suc n) zero (suc b) e = omega (arith, mirror n 0 b (omega arith), choose-above n (suc b) (omega arith))
mirror (suc n) (suc a) zero e = omega (arith, mirror n a 0 (omega arith), choose-above n (suc a) (omega arith))
mirror (suc n) (suc a) (suc b) e = omega (arith, mirror n a (suc b) (omega arith), mirror n (suc a) b (omega arith))

pub symmetry : (n k : ℕ) → k ≤ n → choose n k ≡ choose n (n - k)
symmetry n k h = mirror n k (n - k) (omega arith)

-- up to its middle the row rises
rise : (n j : ℕ) → suc j ≤ n - j → choose n j ≤ choose n (suc j)
rise n j h = le_of_mul-le-mul_right {k = n - j} (omega (arith, absorption n j (omega arith), mul-le-mul_left (choose n (suc j)) h)) (omega arith)

pub rises : (n j d : ℕ) → j + d ≤ n - (j + d) → choose n j ≤ choose n (j + d)
rises n j zero h = let e : j + 0 ≡ j = omega arith in rw e (omega arith)
rises n j (suc d) h =
    let e : j + suc d ≡ suc (j + d) = omega arith in
    rw e (omega (arith, rises n j d (omega arith), rise n (j + d) (omega arith)))

pub before-middle : (n j e : ℕ) → j ≤ e → e ≤ n - e → choose n j ≤ choose n e
before-middle n j e h w = let z : j + (e - j) ≡ e = omega arith in rw z at (rises n j (e - j) (rw z w))

pub choose_one : (n : ℕ) → choose n 1 ≡ n
unfolding choose
choose_one zero = refl
choose_one (suc n) = omega (arith, choose_one n)

pub power-one : (b : ℕ) → b ^ 1 ≡ b
power-one b = rw (pow-suc b 0, pow-zero b) (omega arith)

-- the next binomial, times p, as the code makes it
pub next-term : (n j p : ℕ) → j ≤ n → choose n j * p * (n - j) / (j + 1) ≡ choose n (suc j) * p
next-term n j p h = div-eq_of_eq-mul_left (omega arith) (move (choose n j) (n - j) (choose n (suc j)) j (absorption n j h))
  where
    move : (c d c' i : ℕ) → c' * suc i ≡ c * d → c * p * d ≡ c' * p * (i + 1)
    move c d c' i e = omega (arith, ap (λ (x : ℕ). x * p) e)

pub next-choose : (n j : ℕ) → j ≤ n → choose n j * (n - j) / (j + 1) ≡ choose n (suc j)
next-choose n j h = div-eq_of_eq-mul_left (omega arith) (move (choose n j) (n - j) (choose n (suc j)) (absorption n j h))
  where
    move : (c d c' : ℕ) → c' * suc j ≡ c * d → c * d ≡ c' * (j + 1)
    move c d c' e = omega arith

-- room for a number up to the cap times a small one, and for the product before the division
pub small_product : (most q b : ℕ) → q ≤ cap → b ≤ most → q * b ≤ cap * most
small_product most q b h l = mul-le-mul h l

-- a quotient below the cap, times the values of a place
pub valued-room : (q b : ℕ) → q < cap → b ≤ 15 → q * b ≤ cap * 15
valued-room q b l h = small_product 15 q b (omega arith) h

pub valued-far : (q b : ℕ) {x : ℕ} → 0 < b → q * b ≡ x → cap ≤ q → cap ≤ x
valued-far q b pos e h = omega (arith, e, le-mul_of_pos_right q pos)

pub room : (c n j : ℕ) → (j ≡ 0 → c ≤ 1) → c < cap → n ≤ 256 → c * (n - j) < 2 ^ 64
room c n zero z h w = omega (arith, mul-le-mul {m₁ = n - 0} {m₂ = 256} (z refl) (omega arith))
room c n (suc j) z h w = omega (arith, mul-le-mul {n₁ = c} {m₁ = n - suc j} {n₂ = 2 ^ 56} {m₂ = 255} (omega arith) (omega arith))

-- C(n, k) is n · (n − 1) · .. over k!
abbrev pub fact : ℕ → ℕ
fact zero = 1
fact (suc k) = fact k * suc k

falling-choose : (n k : ℕ) → k ≤ n → falling n k ≡ choose n k * fact k
unfolding falling choose
falling-choose n zero h = refl
falling-choose n (suc k) h =
    move (falling n k) (choose n k) (choose n (suc k)) (fact k) (n - k) (suc k) (falling-choose n k (omega arith)) (absorption n k (omega arith))
  where
    move : (f c c' g d i : ℕ) → f ≡ c * g → c' * i ≡ c * d → f * d ≡ c' * (g * i)
    move f c c' g d i p q = rw p (omega (arith, ap (λ (x : ℕ). x * g) q))

pub falling-two : (n : ℕ) → falling n 2 ≡ n * (n - 1)
unfolding falling
falling-two n = let e : n - 0 ≡ n = omega arith in rw e (omega arith)

pub falling-add : (n i j : ℕ) → falling n (i + j) ≡ falling n i * falling (n - i) j
unfolding falling
falling-add n i zero = let e : i + 0 ≡ i = omega arith in rw e (omega arith)
falling-add n i (suc j) =
    let e : i + suc j ≡ suc (i + j) = omega arith in
    let f : n - i - j ≡ n - (i + j) = omega arith in
    rw (e, falling, falling-add n i j, f) (omega arith)

pub falling-one : (n : ℕ) → falling n 1 ≡ n
unfolding falling
falling-one n = omega arith

-- C(n, e) as p over e!, and as a product over it
pub closed-form : (n e d p : ℕ) → e ≤ n → p ≡ falling n e → fact e ≡ d → 0 < d → p < cap * d → (p / d ≡ choose n e) × (p / d < cap)
closed-form n e d p h r q pos l = (div-eq_of_eq-mul_left pos (r ∙ rw (falling-choose n e h, q)), (div-lt_iff_lt-mul pos).1 l)

pub closed-product : (n i j d p q : ℕ) → i + j ≤ n → p ≡ falling n i → q ≡ falling (n - i) j → fact (i + j) ≡ d → 0 < d → p * q < cap * d →
    (p * q / d ≡ choose n (i + j)) × (p * q / d < cap)
closed-product n i j d p q h ep eq ed pos l = closed-form n (i + j) d (p * q) h (rw (falling-add n i j, ep, eq)) ed pos l

-- two factors a division
pub two-more : (n j p : ℕ) → j + 2 ≤ n → p ≡ falling (n - j) 2 → choose n j * p / ((j + 1) * (j + 2)) ≡ choose n (j + 2)
two-more n j p h e =
    let u : n - j - 1 ≡ n - suc j = omega arith in
    let v : j + 2 ≡ suc (suc j) = omega arith in
    rw (e, falling-two (n - j), u, v)
    (div-eq_of_eq-mul_left (mul-pos {m = j + 1} {n = suc (suc j)} (omega arith) (omega arith))
    (move (choose n j) (choose n (suc j)) (choose n (suc (suc j))) (n - j) (n - suc j) (absorption n j (omega arith)) (absorption n (suc j) (omega arith))))
  where
    move : (c c' c'' x y : ℕ) → c' * suc j ≡ c * x → c'' * suc (suc j) ≡ c' * y → c * (x * y) ≡ c'' * ((j + 1) * suc (suc j))
    move c c' c'' x y p q = omega (arith, ap (λ (z : ℕ). z * y) p, ap (λ (z : ℕ). z * suc j) q)

pub term-one : (b s : ℕ) → s * b ≡ choose s 1 * b ^ 1
term-one b s = rw (choose_one s, power-one b)

pub fewer-one : (b s first : ℕ) → first ≤ 1 → fewer b s first 1 ≡ 1 - first
unfolding choose
fewer-one b s zero h = omega (arith, fewer-step b s 0 0 (omega arith), fewer-none b s 0 0 (omega arith), pow-zero b)
fewer-one b s (suc first) h = omega (arith, fewer-none b s (suc first) 1 (omega arith))

pub sum-begin : (b s first k : ℕ) → first ≤ 1 → 1 < k → s * b ≤ 3840 → SumSoFar b s first k (s * b) (1 - first + s * b) 1
sum-begin b s first k f h l = record {
  low = f;
  more = h;
  is-term = term-one b s;
  is_sum = omega (arith, fewer-step b s first 1 f, fewer-one b s first f, term-one b s);
  within = omega arith;
  small = omega arith;
}

module _ (b s first k term sum j : ℕ) (S : SumSoFar b s first k term sum j) (h : j + 1 < k) where
  sum-grown : fewer b s first (suc (suc j)) ≡ sum + choose s (suc j) * b ^ suc j
  sum-grown = omega (arith, fewer-step b s first (suc j) (omega (arith, S.low)), S.is_sum)

  -- the sum reaches the cap
  pub sum_over : cap ≤ sum + choose s (suc j) * b ^ suc j → cap ≤ fewer b s first k
  sum_over l = omega (arith, sum-grown, fewer-grows b s first (suc (suc j)) k (omega arith))

  pub sum-turn : (t : ℕ) → t ≡ choose s (suc j) * b ^ suc j → sum + t < cap → SumSoFar b s first k t (sum + t) (j + 1)
  sum-turn t e l =
      rw add-one (record { low = omega (arith, S.low); more = omega arith; is-term = e; is_sum = omega (arith, sum-grown); within = omega arith; small = l })

pub sum-end : (b s first k term sum j : ℕ) → SumSoFar b s first k term sum j → k ≤ j + 1 → sum ≡ sat (fewer b s first k)
sum-end b s first k term sum j S h = let e : k ≡ suc j = omega (arith, S.more) in rw e (omega (arith, S.is_sum, S.small))

-- the next term, with q the quotient that the code makes
module _ (b s j term : ℕ) (e : term ≡ choose s j * b ^ j) where
  pub term-room : term < cap → s ≤ 256 → term * (s - j) < 2 ^ 64
  unfolding choose
  term-room h v = room term s j one h v
    where
      one : j ≡ 0 → term ≤ 1
      one z = let x : choose s j * b ^ j ≡ 1 = rw (z, pow-zero) in omega arith

  module _ (q : ℕ) (l : j ≤ s) (eq : q ≡ term * (s - j) / (j + 1)) where
    pub term-next : q * b ≡ choose s (suc j) * b ^ suc j
    term-next =
        let x : q ≡ choose s (suc j) * b ^ j = eq ∙ rw e (next-term s j (b ^ j) l) in
        rw pow-suc (omega (arith, ap (λ (y : ℕ). y * b) x))

-- one row up, in the same column and in the one before
down : (n k : ℕ) → choose (suc n) (suc k) * suc k ≡ choose n k * suc n
unfolding choose
down n k = omega (arith, absorb n k)

pub across : (n k : ℕ) → k ≤ suc n → choose (suc n) k * (suc n - k) ≡ choose n k * suc n
across n k h = rw mul-sub (omega (arith, absorb (suc n) k, down n k))

pub choose-positive : (n k : ℕ) → k ≤ n → 0 < choose n k
unfolding choose
choose-positive n zero h = omega arith
choose-positive zero (suc k) h = absurd (omega arith)
choose-positive (suc n) (suc k) h = omega (arith, choose-positive n k (omega arith))

-- the steps as the code makes them
module _ (n k c : ℕ) (p : 0 < k) (e : c ≡ choose n k) (l : c < cap) where
  pub lower-room : n ≤ 256 → c * (n - k) < 2 ^ 64
  lower-room w = omega (arith, mul-le-mul {n₁ = c} {m₁ = n - k} {n₂ = 2 ^ 56} {m₂ = 255} (omega arith) (omega arith))

  pub lower-is : k ≤ n → c * (n - k) / n ≡ choose (n - 1) k
  lower-is h = rw e (div-eq_of_eq-mul_left (omega arith) (at n h))
    where
      at : (n : ℕ) → k ≤ n → choose n k * (n - k) ≡ choose (n - 1) k * n
      at zero h = absurd (omega arith)
      at (suc n) h = let u : suc n - 1 ≡ n = omega arith in rw u (across n k h)

  pub inner_room : k ≤ suc n → n ≤ 255 → c * k < 2 ^ 64
  inner_room h w = elim (le-or-lt k 255) [
    | inl g ↦ omega (arith, mul-le-mul {n₁ = c} {m₁ = k} {n₂ = 2 ^ 56} {m₂ = 255} (omega arith) g)
    | inr g ↦ omega (arith, mul-le-mul {n₁ = c} {m₁ = k} {n₂ = 0} {m₂ = 256} (omega (arith, choose-above n k (omega arith))) (omega arith))
  ]

  pub inner-is : 0 < n → c * k / n ≡ choose (n - 1) (k - 1)
  inner-is h = rw e (div-eq_of_eq-mul_left h (at n k h p))
    where
      at : (n k : ℕ) → 0 < n → 0 < k → choose n k * k ≡ choose (n - 1) (k - 1) * n
      at zero k h p = absurd (omega arith)
      at (suc n) zero h p = absurd (omega arith)
      at (suc n) (suc k) h p =
          let u : suc n - 1 ≡ n = omega arith in
          let v : suc k - 1 ≡ k = omega arith in
          rw (u, v) (down n k)

-- a binomial of the row above is no larger
pub inner-small : (n k : ℕ) → 0 < n → 0 < k → choose (n - 1) (k - 1) ≤ choose n k
unfolding choose
inner-small zero k h p = absurd (omega arith)
inner-small (suc n) zero h p = absurd (omega arith)
inner-small (suc n) (suc k) h p =
    let u : suc n - 1 ≡ n = omega arith in
    let v : suc k - 1 ≡ k = omega arith in
    rw (u, v) (omega arith)

-- a sum up to the cap
pub plus-sat : (x y : ℕ) {r s q : ℕ} → r ≡ sat x → s ≡ sat y → q ≡ sat (r + s) → q ≡ sat (x + y)
plus-sat x y e f g = omega arith

-- one factor b more
pub power-more : (b x : ℕ) {p : ℕ} → p ≡ b ^ x → p * b ≡ b ^ (x + 1)
power-more b x e = rw (add-one, pow-suc, e)
