-- The bounds as the code tests them: first those of the outline, then the ranges one by one.
use Prim.Native.Nat.{ℕ, zero, suc, ◌+◌, ◌-◌, ◌^◌, ◌≤◌, ◌<◌}
use mathlib.Core.Path.{◌≡◌, refl, ap}
use mathlib.Core.List.{List}
use mathlib.Core.Bool.{Bool, true, false, cond, not, ◌&&◌}
use native.Mathlib.Omega.{arith}
use lib.Dec.{leb, eqb}
use lib.ListN.{get_or, length, take, drop}
use Rattle.std.specs.List.{list_all}
use Rattle.std.proofs.Math.Seq.{drop-cons}
use borrow.Author.Tests.{not-true, not-false, leb-true, eqb-true}
use Rattle.shapes.specs.declared.Outline.{Outline}
use Rattle.code.specs.Cells.{listed}
use Rattle.code.specs.Shape.{ranges_due, given, all_ranges, outside}
use Rattle.shapes.specs.Outlines.{outlined}
use Rattle.code.proofs.Tests.{both_true}
use Rattle.shapes.specs.Outlines.{outline_within, outline_outside}

-- a range within its bounds
abbrev pub is_range : ℕ → Bool
is_range x = leb 2 x && leb x (2 ^ 56)

-- those at i and behind it, n of them
pub ranges-listed : (v : List ℕ) (i n : ℕ) → i + n ≤ length v → list_all is_range (take n (drop i v)) ≡ all_ranges (listed (λ k. get_or v k 0) i n)
unfolding all_ranges listed
ranges-listed v i zero h = refl
ranges-listed v i (suc n) h = rw (drop-cons v i 0 (omega arith)) (ap (λ b. is_range (get_or v i 0) && b) (ranges-listed v (suc i) n (omega arith)))

-- the first, and those behind it
first-then : (f : ℕ → ℕ) (n : ℕ) → 0 < n → all_ranges (listed f 0 n) ≡ is_range (f 0) && all_ranges (listed f 1 (n - 1))
unfolding all_ranges listed
first-then f zero l = absurd (omega (arith, l))
first-then f (suc n) l = ap (λ k. is_range (f 0) && all_ranges (listed f 1 k)) (omega arith)

module _ (f : Outline) where
  pub outside-by-outline : outline_outside f ≡ true → (v : List ℕ) (g : ℕ) → outside (outlined f v) g ≡ true
  unfolding outside outline_outside
  outside-by-outline w v g = rw (not-true (outline_within f) w)

  module _ (w : outline_outside f ≡ false) where
    pub count-within : (0 < f.count) × (f.count ≤ 16)
    unfolding ranges_due outline_outside
    count-within =
        let m = leb f.form 2 && (leb 2 f.m && leb f.m 4) in
        let t = leb 2 f.t && leb f.t 16 in
        let due = ranges_due f.form f.t in
        let a = both_true (m && t) (eqb f.count due) (not-false (outline_within f) w) in
        let b = both_true (leb 2 f.t) (leb f.t 16) (both_true m t a.0).1 in
        go (eqb f.form 2) (eqb-true f.count due a.1) (leb-true 2 f.t b.0) (leb-true f.t 16 b.1)
      where
        go : (b : Bool) → f.count ≡ cond b f.t 1 → 2 ≤ f.t → f.t ≤ 16 → (0 < f.count) × (f.count ≤ 16)
        go true e low high = omega arith
        go false e low high = omega arith

    pub ranges-tested : (v : List ℕ) (g : ℕ) (first later : Bool) → first ≡ leb 2 (get_or v 0 0) && leb (get_or v 0 0) (2 ^ 56) →
        later ≡ all_ranges (listed (λ i. get_or v i 0) 1 (f.count - 1)) → not (first && later && leb g 256) ≡ outside (outlined f v) g
    unfolding outside given outline_outside
    ranges-tested v g first later a b =
        let all = first-then (λ i. get_or v i 0) f.count count-within.0 in
        rw (not-false (outline_within f) w, all, a, b)
