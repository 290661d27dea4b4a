-- The lists that document 01 and 003 publish for v = 2^56: Example 1, and the two of t = 2.
use Prim.Native.Nat.{ℕ, ◌-◌, ◌^◌}
use mathlib.Core.Path.{◌≡◌, refl, ◌∙◌}
use mathlib.Core.List.{List, [], ◌∷◌}
use native.Mathlib.Omega.{arith}
use lib.ListN.{replicate}
use Rattle.code.specs.Count.{least}
use Rattle.code.specs.Shape.{shaped, first_of, ranges_of, granted}
use Rattle.code.proofs.Rows.{along, row, weigh, room_by_row, counts_by_row, grant-row}

by_rows : (m t : ℕ) (hs : List ℕ) → counts_by_row 256 (2 ^ m - 1) (2 ^ m - 1) 0 (replicate t (2 ^ 56)) ≡ hs → granted (shaped m t (2 ^ 56)) 256 ≡ hs
unfolding granted first_of ranges_of
by_rows m t hs q = grant-row 256 m 0 (replicate t (2 ^ 56)) (omega arith) ∙ q

pub published :
    (granted (shaped 2 10 (2 ^ 56)) 256 ≡ 139 ∷ 130 ∷ 120 ∷ 110 ∷ 99 ∷ 88 ∷ 76 ∷ 64 ∷ 51 ∷ 36 ∷ [])
    × (granted (shaped 2 2 (2 ^ 56)) 256 ≡ 49 ∷ 36 ∷ [])
    × (granted (shaped 3 2 (2 ^ 56)) 256 ≡ 31 ∷ 20 ∷ [])
unfolding along row weigh room_by_row counts_by_row least
published = (by_rows 2 10 _ refl, by_rows 2 2 _ refl, by_rows 3 2 _ refl)
