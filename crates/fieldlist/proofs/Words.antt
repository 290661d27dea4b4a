-- Words held against each other.
use Prim.Native.Nat.{ℕ}
use mathlib.Core.Path.{◌≡◌, refl, ap}
use mathlib.Core.Bool.{Bool, ◌&&◌}
use mathlib.Core.List.{List, [], ◌∷◌}
use lib.Dec.{eqb}
use lib.Pointwise.{pointwise}
use Rattle.code.specs.Lists.{same}

-- Rust's `==` of two lists tells whether they are the same
pub equal-same : (xs ys : List ℕ) → pointwise eqb xs ys ≡ same xs ys
unfolding same
equal-same [] [] = refl
equal-same [] (y ∷ ys) = refl
equal-same (x ∷ xs) [] = refl
equal-same (x ∷ xs) (y ∷ ys) = ap (λ (b : Bool). eqb x y && b) (equal-same xs ys)
