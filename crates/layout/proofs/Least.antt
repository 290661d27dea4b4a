-- The least count: what the code finds is what `least` of the definition finds.
use Prim.Native.Nat.{ℕ, zero, suc, ◌-◌, ◌^◌, ◌≤◌, ◌<◌}
use mathlib.Core.Path.{◌≡◌}
use mathlib.Core.Logic.{inl, inr}
use native.Mathlib.Nat.{le_trans, le_refl, le_antisymm, pow-le-pow_right}
use native.Mathlib.Omega.{arith}
use lib.Dec.{leb}
use borrow.Author.Tests.{le-leb, leb-true}
use Rattle.code.specs.Count.{least}
use Rattle.code.specs.Code.{room, deals}
use Rattle.code.specs.Layout.{room_by}
use Rattle.code.proofs.Tests.{le-or-lt, least-le, least-passes}
use Rattle.code.proofs.Count.{fewer-grows, fewer-more}
use Rattle.climbing.specs.Climb.{held, Least}

-- more groups above the same next count hold no less
held_up : (b first low x y : ℕ) → x ≤ y → held b first low x ≤ held b first low y
held_up b first low x y h =
    le_trans
    (fewer-more b b x y first first (suc (x - low)) (le_refl b) h (le_refl first))
    (fewer-grows b y first (suc (x - low)) (suc (y - low)) (omega arith))

pub room-up : (e b first low x y : ℕ) → 0 < e → x ≤ y → room_by e b first x low ≤ room_by e b first y low
unfolding room deals
room-up e b first zero x y p h = omega (arith, pow-le-pow_right {n = e} p h)
room-up e b first (suc low) x y p h = held_up b first (suc low) x y h

-- what grows and reaches v at r, but not below it
module _ (f : ℕ → ℕ) (grows : (x y : ℕ) → x ≤ y → f x ≤ f y) (v g low r : ℕ) (L : Least f v low r) where
  not-before : least (λ x. leb v (f x)) (suc low) g ≤ g → r ≤ least (λ x. leb v (f x)) (suc low) g
  not-before l =
      let x = least (λ x. leb v (f x)) (suc low) g in
      elim (le-or-lt r x) [
        | inl h ↦ h
        | inr h ↦ omega (arith, leb-true v (f x) (least-passes (λ x. leb v (f x)) (suc low) g (omega arith)), grows x (r - 1) (omega arith), L.short)
      ]

  pub least-over : g < r → g < least (λ x. leb v (f x)) (suc low) g
  least-over h = elim (le-or-lt (least (λ x. leb v (f x)) (suc low) g) g) [ inl l ↦ omega (arith, not-before l) | inr q ↦ q ]

  pub least-is : r ≤ g → least (λ x. leb v (f x)) (suc low) g ≡ r
  least-is h =
      let le = least-le (λ x. leb v (f x)) (suc low) g r L.above (le-leb v (f r) L.enough) in
      le_antisymm le (not-before (omega arith))

-- a count as the code asks for it: the last, and one above a count
pub least-last : {v r : ℕ} (e b first : ℕ) → Least (λ x. e ^ x - 1) v 0 r → Least (λ x. room_by e b first x 0) v 0 r
unfolding room deals
least-last e b first L = L

pub least-room : {low v r : ℕ} (e b first : ℕ) → 0 < low → Least (held b first low) v low r → Least (λ x. room_by e b first x low) v low r
unfolding room deals
least-room {low = zero} e b first p L = absurd (omega arith)
least-room {low = suc low} e b first p L = L
