-- The wits that are turned, counted in words, and added up over steps that change different wits.
use mathlib.Core.Path.{◌≡◌, refl, sym, ap, ◌∙◌}
use mathlib.Core.Logic.{◌⊎◌, inl, inr}
use mathlib.Core.List.{List}
use Prim.Native.Nat.{ℕ, zero, suc, ◌+◌, ◌*◌, ◌-◌, ◌/◌, ◌%◌, ◌≤◌, ◌<◌}
use native.Mathlib.Omega.{arith}
use native.Mathlib.Nat.{add_comm, sub_self}
use lib.Bits.{bit_or, or_add_and, and_le_l}
use lib.Count.{ones, ones_in, ones_step}
use lib.ListN.{length}
use Rattle.code.specs.Cells.{wit, value, sum, turned}
use Rattle.code.proofs.Numbers.{sum-split, or-snoc}
use Rattle.code.proofs.Wits.{wit-lt, wit-past}
use Rattle.cells.specs.Cells.{PutWits}

pub or_above : (a b : ℕ) → b ≤ bit_or a b
or_above a b = omega (arith, or_add_and a b, and_le_l a b)

ones-snoc : (a x : ℕ) → x < 2 → ones (2 * a + x) ≡ ones a + x
ones-snoc a x h =
    let p : (2 * a + x) % 2 ≡ x = omega arith in
    let q : (2 * a + x) / 2 ≡ a = omega arith in
    ones_step (2 * a + x) ∙ rw (p, q) (add_comm x (ones a))

-- what is set in the new word and was not in the old
pub ones-turned : (f g : ℕ → ℕ) (p n : ℕ) → ((k : ℕ) → f k < 2) → ((k : ℕ) → g k < 2)
    → ones (bit_or (value g p n) (value f p n) - value f p n) ≡ sum (λ k. g (p + k) - f (p + k)) n
unfolding value sum ones ones_in
ones-turned f g p zero a b = refl
ones-turned f g p (suc n) a b =
    let v = value f p n in
    let w = value g p n in
    let x = f (p + n) in
    let y = g (p + n) in
    let e : bit_or (2 * w + y) (2 * v + x) - (2 * v + x) ≡ 2 * (bit_or w v - v) + (y - x) =
    rw (or-snoc w y v x (b (p + n)) (a (p + n))) (omega (arith, or_above w v, a (p + n), b (p + n))) in
    rw e (ones-snoc (bit_or w v - v) (y - x) (omega (arith, b (p + n))) ∙ rw (ones-turned f g p n a b))

sum-none : (f : ℕ → ℕ) (n : ℕ) → ((k : ℕ) → k < n → f k ≡ 0) → sum f n ≡ 0
unfolding sum
sum-none f zero e = refl
sum-none f (suc n) e = omega (arith, sum-none f n (λ k l. e k (omega arith)), e n (omega arith))

-- a sum to n of what is 0 from n on and beside the places p to p + d
sum-window : (f : ℕ → ℕ) (n p d : ℕ) → ((k : ℕ) → n ≤ k → f k ≡ 0) → ((k : ℕ) → k < p → f k ≡ 0) → ((k : ℕ) → p + d ≤ k → f k ≡ 0)
    → sum f n ≡ sum (λ k. f (p + k)) d
sum-window f n p d end before behind =
    let a : sum f (n + (p + d)) ≡ sum f n + 0 = sum-split f n (p + d) ∙ rw (sum-none (λ k. f (n + k)) (p + d) (λ k l. end (n + k) (omega arith))) in
    let b : sum f (p + d + n) ≡ sum f (p + d) + 0 = sum-split f (p + d) n ∙ rw (sum-none (λ k. f (p + d + k)) n (λ k l. behind (p + d + k) (omega arith))) in
    let c : n + (p + d) ≡ p + d + n = omega arith in
    omega (arith, a, b, ap (sum f) c, sum-split f p d, sum-none f p before)

pub put-turned : {o : ℕ} {bs cs : List ℕ} {p n x : ℕ} → PutWits o bs cs p n x
    → turned o bs cs ≡ ones (bit_or (value (wit o cs) p n) (value (wit o bs) p n) - value (wit o bs) p n)
unfolding turned
put-turned {o} {bs} {cs} {p} {n} P =
    let f = wit o bs in
    let g = wit o cs in
    sum-window (λ k. g k - f k) (8 * length bs) p n (λ k l. omega (arith, wit-past o cs k (omega (arith, P.long)))) (λ k l. omega (arith, P.front k l))
    (λ k l. omega (arith, P.rest k l))
    ∙ sym (ones-turned f g p n (wit-lt o bs) (wit-lt o cs))

pub turned_none : (o : ℕ) (bs : List ℕ) → turned o bs bs ≡ 0
unfolding turned
turned_none o bs = sum-none (λ k. wit o bs k - wit o bs k) (8 * length bs) (λ k l. sub_self (wit o bs k))

-- two steps, where each wit is changed by one of them alone
pub turned_more : (o : ℕ) (bs cs ds : List ℕ) → length cs ≡ length bs → ((k : ℕ) → (wit o cs k ≡ wit o bs k) ⊎ (wit o ds k ≡ wit o cs k))
    → turned o bs cs + turned o cs ds ≡ turned o bs ds
unfolding turned sum
turned_more o bs cs ds e h = rw e (go (8 * length bs))
  where
    go : (n : ℕ) → sum (λ k. wit o cs k - wit o bs k) n + sum (λ k. wit o ds k - wit o cs k) n ≡ sum (λ k. wit o ds k - wit o bs k) n
    go zero = refl
    go (suc n) = elim (h n) [ inl q ↦ omega (arith, go n) | inr q ↦ omega (arith, go n) ]
