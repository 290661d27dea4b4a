-- The last count, by condition d: powers of e in steps of e².
use Prim.Native.Nat.{ℕ, ◌+◌, ◌-◌, ◌*◌, ◌^◌, ◌≤◌, ◌<◌}
use mathlib.Core.Path.{◌≡◌, refl, sym, ◌∙◌}
use native.Mathlib.Nat.{pow-zero, add-sub_cancel, mul-le-mul, mul-le-mul_left, le_of_mul-le-mul_right, lt_of_mul-lt-mul_right}
use native.Mathlib.Omega.{arith}
use Rattle.counting.proofs.Laws.{power-more}
use Rattle.climbing.specs.Climb.{Least}

pub power-two-more : (e x : ℕ) {p : ℕ} → p ≡ e ^ x → p * (e * e) ≡ e ^ (x + 2)
power-two-more e x {p} h =
    let two : x + 1 + 1 ≡ x + 2 = omega arith in
    let q : p * (e * e) ≡ p * e * e = omega arith in
    q ∙ rw two at (power-more e (x + 1) (power-more e x h))

pub square-small : (e : ℕ) → e ≤ 15 → e * e ≤ 225
square-small e h = mul-le-mul {n₂ = 15} {m₂ = 15} h h

-- p is the power of x + 2, and that of x is at most v
pub record Last (e v x p : ℕ) : Type 0 where
  pub is : p ≡ e ^ (x + 2)
  pub short : e ^ x ≤ v
  pub far : x < p
  pub near : x ≤ v + 1

pub last-begin : (e v : ℕ) → 3 ≤ e → 0 < v → Last e v 0 (e * e)
last-begin e v h l = record {
  is = omega (arith, power-two-more e 0 (sym (pow-zero e)));
  short = rw (pow-zero e) l;
  far = omega (arith, mul-le-mul {n₁ = 3} {m₁ = 3} h h);
  near = omega arith;
}

module _ (e v x p : ℕ) (h : 3 ≤ e) (some : 2 ≤ v) (L : Last e v x p) where
  pub last-grows : p + 2 ≤ p * (e * e)
  last-grows = omega (arith, L.far, mul-le-mul_left p (mul-le-mul {n₁ = 3} {m₁ = 3} h h))

  pub last_turn : p ≤ v → Last e v (x + 2) (p * (e * e))
  last_turn l = record {
    is = power-two-more e (x + 2) L.is;
    short = omega (arith, L.is);
    far = omega (arith, L.far, last-grows);
    near = omega (arith, L.far);
  }

  -- the power of x + 1, by which p is one factor larger
  middle : p ≡ e ^ (x + 1) * e
  middle = let two : x + 1 + 1 ≡ x + 2 = omega arith in omega (arith, L.is, rw two at (power-more e (x + 1) {p = e ^ (x + 1)} refl))

  pub last-odd : v * e < p → Least (λ y. e ^ y - 1) v 0 (x + 1)
  last-odd l = record {
    above = omega arith;
    short = rw (add-sub_cancel x 1) (omega (arith, L.short));
    enough = omega (arith, lt_of_mul-lt-mul_right e {m = v} {n = e ^ (x + 1)} (omega (arith, middle)));
  }

  pub last-even : v < p → p ≤ v * e → Least (λ y. e ^ y - 1) v 0 (x + 2)
  last-even far l =
      let z : x + 2 - 1 ≡ x + 1 = omega arith in
      record {
        above = omega arith;
        short = rw z (omega (arith, le_of_mul-le-mul_right {m = e ^ (x + 1)} {n = v} {k = e} (omega (arith, middle)) (omega arith)));
        enough = omega (arith, L.is);
      }
