-- Laws of binomials and of the sums of patterns.
use Prim.Native.Nat.{ℕ, zero, suc, ◌+◌, ◌*◌, ◌-◌, ◌^◌, ◌≤◌}
use mathlib.Core.Path.{◌≡◌, refl}
use mathlib.Core.Logic.{inl, inr}
use native.Mathlib.Omega.{arith}
use native.Mathlib.Nat.{mul-le-mul, pow-le-pow_left, zero-add, suc-add}
use borrow.Author.Tests.{le-leb, lt-leb}
use Rattle.code.specs.Count.{choose, fewer}
use Rattle.code.proofs.Tests.{le-or-lt}

pub choose-grows : (n k : ℕ) → choose n k ≤ choose (suc n) k
unfolding choose
choose-grows n zero = omega arith
choose-grows n (suc k) = omega arith

pub choose-more : (n i k : ℕ) → choose i k ≤ choose (n + i) k
choose-more zero i k = rw zero-add (omega arith)
choose-more (suc n) i k = rw suc-add (omega (arith, choose-more n i k, choose-grows (n + i) k))

-- the sum over the written counts: nothing below `first`, then a term for each, so it only grows
pub fewer-none : (b s first k : ℕ) → k ≤ first → fewer b s first k ≡ 0
unfolding fewer
fewer-none b s first zero h = refl
fewer-none b s first (suc k) h = rw (fewer-none b s first k (omega arith), lt-leb first k h)

pub fewer-step : (b s first k : ℕ) → first ≤ k → fewer b s first (suc k) ≡ fewer b s first k + choose s k * b ^ k
unfolding fewer
fewer-step b s first k h = rw (le-leb first k h)

pub fewer-grows : (b s first j k : ℕ) → j ≤ k → fewer b s first j ≤ fewer b s first k
unfolding fewer
fewer-grows b s first j zero h = let e : j ≡ 0 = omega arith in rw e (omega arith)
fewer-grows b s first j (suc k) h = elim (le-or-lt j k) [
  | inl l ↦ let ih = fewer-grows b s first j k l in omega arith
  | inr g ↦ let e : j ≡ suc k = omega arith in rw e (omega arith)
]

pub choose-up : (s s' k : ℕ) → s ≤ s' → choose s k ≤ choose s' k
choose-up s s' k h = let q : s' - s + s ≡ s' = omega arith in rw q at (choose-more (s' - s) s k)

-- more values, more places or an earlier start: more patterns
pub fewer-more : (b b' s s' first first' k : ℕ) → b ≤ b' → s ≤ s' → first' ≤ first → fewer b s first k ≤ fewer b' s' first' k
unfolding fewer
fewer-more b b' s s' first first' zero hb hs hf = omega arith
fewer-more b b' s s' first first' (suc k) hb hs hf =
    let ih = fewer-more b b' s s' first first' k hb hs hf in
    elim (le-or-lt first k) [
      | inl l ↦ rw (le-leb first k l, le-leb first' k (omega arith)) (omega (arith, mul-le-mul (choose-up s s' k hs) (pow-le-pow_left hb k)))
      | inr g ↦ rw (lt-leb first k g) (omega arith)
    ]
