-- How fast the sums of patterns grow with the written places.
use Prim.Native.Nat.{ℕ, zero, suc, ◌+◌, ◌*◌, ◌^◌, ◌≤◌, ◌<◌}
use mathlib.Core.Path.{◌≡◌, ap}
use mathlib.Core.Logic.{inl, inr}
use native.Mathlib.Omega.{arith}
use native.Mathlib.Nat.{pow-zero, pow-suc}
use Rattle.code.specs.Count.{choose, fewer}
use Rattle.code.proofs.Tests.{le-or-lt}
use Rattle.code.proofs.Count.{fewer-step, fewer-grows, fewer-more}

-- Pascal's rule for the sums
fewer-pascal : (b s k : ℕ) → fewer b (suc s) 0 (suc k) ≡ b * fewer b s 0 k + fewer b s 0 (suc k)
unfolding fewer choose
fewer-pascal b s zero = rw pow-zero (omega arith)
fewer-pascal b s (suc k) =
    rw (fewer-step b (suc s) 0 (suc k) (omega arith), fewer-step b s 0 (suc k) (omega arith), pow-suc b k)
    (omega (arith, fewer-pascal b s k, ap (λ (x : ℕ). b * x) (fewer-step b s 0 k (omega arith))))

-- two values for a written place, and one for a blank one
threes : (k : ℕ) → 3 ^ k ≤ fewer 2 k 0 (suc k)
unfolding fewer choose
threes zero = rw pow-zero (omega arith)
threes (suc k) = rw (pow-suc 3 k) (omega (arith, threes k, fewer-pascal 2 k (suc k), fewer-grows 2 k 0 (suc k) (suc (suc k)) (omega arith)))

-- only one pattern has no written place
from_one : (b s first k : ℕ) → first ≤ 1 → fewer b s 0 k ≤ suc (fewer b s first k)
unfolding fewer choose
from_one b s first zero h = omega arith
from_one b s first (suc k) h = elim (le-or-lt first k) [
  | inl l ↦ rw (fewer-step b s first k l, fewer-step b s 0 k (omega arith)) (omega (arith, from_one b s first k h))
  | inr g ↦ let z : k ≡ 0 = omega arith in rw (z, pow-zero) (omega arith)
]

pub fewer-threes : (b s first k : ℕ) → 1 < b → first ≤ 1 → k ≤ s → 3 ^ k ≤ suc (fewer b s first (suc k))
fewer-threes b s first k hb hf hs = omega (arith, threes k, fewer-more 2 b k s 0 0 (suc k) hb hs (omega arith), from_one b s first (suc k) hf)
