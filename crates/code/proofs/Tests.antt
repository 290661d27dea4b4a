-- What a test tells, and the first number that passes one.
use Prim.Native.Nat.{ℕ, zero, suc, ◌+◌, ◌≤◌, ◌<◌}
use mathlib.Core.Path.{◌≡◌, refl, sym, ap, ◌∙◌}
use mathlib.Core.Logic.{◌⊎◌, inl, inr, ◌≢◌}
use mathlib.Core.Bool.{Bool, true, false, true≢false, cond, not, ◌&&◌}
use native.Mathlib.Omega.{arith}
use native.Mathlib.Decide.{dec_le}
use lib.Dec.{leb, ltb}
use borrow.Author.Tests.{le-leb, lt-leb, lt-ltb, le-ltb}
use Rattle.code.specs.Count.{least}

pub le-or-lt : (a b : ℕ) → (a ≤ b) ⊎ (b < a)
le-or-lt a b = elim (dec_le a b) [ yes h ↦ inl h | no n ↦ inr (omega arith) ]

-- the search starts at `from`, passes no number by that passes, and what it stops at before the fuel runs out passes
pub least-low : (test : ℕ → Bool) (from fuel : ℕ) → from ≤ least test from fuel
unfolding least
least-low test from zero = omega arith
least-low test from (suc fuel) = go (test from) refl (least-low test (suc from) fuel)
  where
    go : (t : Bool) → test from ≡ t → suc from ≤ least test (suc from) fuel → from ≤ least test from (suc fuel)
    go true q ih = rw (q, least) (omega arith)
    go false q ih = rw (q, least) (omega arith)

pub least-le : (test : ℕ → Bool) (from fuel n : ℕ) → from ≤ n → test n ≡ true → least test from fuel ≤ n
unfolding least
least-le test from zero n l p = l
least-le test from (suc fuel) n l p = go (test from) refl (λ h. least-le test (suc from) fuel n h p)
  where
    go : (t : Bool) → test from ≡ t → (from < n → least test (suc from) fuel ≤ n) → least test from (suc fuel) ≤ n
    go true q ih = rw (q, least) l
    go false q ih = let ne : from ≢ n = λ r. true≢false (sym p ∙ sym (ap test r) ∙ q) in rw (q, least) (ih (omega arith))

pub least-passes : (test : ℕ → Bool) (from fuel : ℕ) → least test from fuel < from + fuel → test (least test from fuel) ≡ true
unfolding least
least-passes test from zero l = absurd (omega arith)
least-passes test from (suc fuel) l = go (test from) refl (least-passes test (suc from) fuel) l
  where
    go : (t : Bool) → test from ≡ t → (least test (suc from) fuel < suc from + fuel → test (least test (suc from) fuel) ≡ true) →
        least test from (suc fuel) < from + suc fuel → test (least test from (suc fuel)) ≡ true
    go true q ih h = rw (q, least) q
    go false q ih h = let h' : least test (suc from) fuel < from + suc fuel = rw (q, least) at h in rw (q, least) (ih (omega arith))

-- a number within the fuel that passes
pub least-found : (test : ℕ → Bool) (from fuel n : ℕ) → from ≤ n → n ≤ from + fuel → test n ≡ true → test (least test from fuel) ≡ true
least-found test from fuel n l h p = elim (le-or-lt (from + fuel) (least test from fuel)) [
  | inl g ↦ let q : least test from fuel ≡ n = omega (arith, least-le test from fuel n l p) in rw q p
  | inr k ↦ least-passes test from fuel k
]

-- two constructors are never equal, which `cc` tells as 0 ≡ 1
pub clash : {A : Type 0} → ◌≡◌ {A = ℕ} 0 1 → A
clash e = absurd (omega arith)

pub both_true : (a b : Bool) → (a && b) ≡ true → (a ≡ true) × (b ≡ true)
both_true true b h = (refl, h)
both_true false b h = (cc, cc)

-- two tests are equal that are equal as 1 and 0
pub same_test : (a b : Bool) → ◌≡◌ {A = ℕ} (cond a 1 0) (cond b 1 0) → a ≡ b
same_test true true e = refl
same_test true false e = absurd (omega arith)
same_test false true e = absurd (omega arith)
same_test false false e = refl

pub and-true : (a : Bool) → (a && true) ≡ a
and-true true = refl
and-true false = refl

pub and-false : (a : Bool) → (a && false) ≡ false
and-false true = refl
and-false false = refl

-- not being at most is being above
pub less-not : (v x : ℕ) → not (leb v x) ≡ ltb x v
less-not v x = elim (le-or-lt v x) [
  | inl h ↦ rw (le-leb v x h, le-ltb x v h)
  | inr h ↦ rw (lt-leb v x h, lt-ltb x v h)
]
