-- `shapes::range_at` meets its contract. Assumes nothing.
use Prim.Native.Nat.{ℕ, ◌^◌, ◌≤◌, ◌<◌}
use mathlib.Core.Path.{◌≡◌, sym}
use lib.ListN.{get_or}
use Rattle.code.specs.declared.Shape.{Shape}
use Rattle.code.specs.Shape.{ranges_of}
use Rattle.code.proofs.LayoutCall.{Bounds}
use Rattle.code.proofs.LayoutCall.{range_listed, range-single, range-within}
use Rattle.shapes.proofs.range_at.Goals as goal

-- the range at a place, and its bounds
found : (s : Shape) → Bounds s → (i : ℕ) → i < s.t → (r : ℕ) → r ≡ get_or (ranges_of s) i 0 → (r ≡ get_or (ranges_of s) i 0) × (2 ≤ r) × (r ≤ 2 ^ 56)
found s b i l r e = let w = range-within s b i l in (e, rw e w.0, rw e w.1)

pub returns-then-f-eq2 : goal.returns-then-f-eq2
returns-then-f-eq2 c = found _ c.requires.0 _ c.requires.1 _ (sym (range_listed _ c.requires.0 c.if-f-eq2.true _ c.requires.1))

pub returns : goal.returns
returns c = found _ c.requires.0 _ c.requires.1 _ (sym (range-single _ c.requires.0 c.if-f-eq2.false _ c.requires.1))
