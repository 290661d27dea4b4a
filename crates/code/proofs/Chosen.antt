-- The written places of a pattern by label and value, leftmost first, as the code carries them (RULES 4), and a pattern's number from these.
use Prim.Native.Nat.{ℕ, zero, suc, ◌+◌, ◌≤◌}
use mathlib.Core.Path.{◌≡◌, refl, ap}
use mathlib.Core.List.{List, [], ◌∷◌}
use native.Mathlib.Omega.{arith}
use mathlib.Core.Bool.{cond}
use lib.Dec.{eqb}
use lib.ListN.{length, take}
use borrow.Author.Tests.{eq-eqb, ne_eqb}
use Rattle.code.specs.Lists.{Below}
use Rattle.code.specs.Count.{choose}
use Rattle.code.specs.Deal.{written, rank, digits, plain}

-- "places are labelled s − 1 (leftmost) down to 0 (rightmost)": the chosen labels
unfoldable pub labels : List ℕ → List ℕ
labels [] = []
labels (zero ∷ xs) = labels xs
labels (suc x ∷ xs) = length xs ∷ labels xs

-- "the written values less 1"
unfoldable pub values : List ℕ → List ℕ
values [] = []
values (zero ∷ xs) = values xs
values (suc x ∷ xs) = x ∷ values xs

-- "chosen labels i_1 > .. > i_k give C(i_1, k) + C(i_2, k − 1) + .. + C(i_k, 1)"
unfoldable pub ranked : List ℕ → ℕ
ranked [] = 0
ranked (i ∷ is) = choose i (suc (length is)) + ranked is

-- the same sentences backwards: the pattern of s places that has these labels and these values less 1, as many of the one as of the other
unfoldable pub scattered : ℕ → List ℕ → List ℕ → List ℕ
scattered zero is xs = []
scattered (suc s) [] xs = 0 ∷ scattered s [] xs
scattered (suc s) (i ∷ is) [] = 0 ∷ scattered s (i ∷ is) []
scattered (suc s) (i ∷ is) (x ∷ xs) = cond (eqb i s) (suc x ∷ scattered s is xs) (0 ∷ scattered s (i ∷ is) (x ∷ xs))

-- what an array of labels or values has room for: the written places of a pattern whose number is in range, or the digits of the last generation
abbrev pub pattern_most : ℕ
pattern_most = 64

-- the first k bytes of two arrays are the labels and the values less 1 of the written places of xs
pub record Chosen (xs at less : List ℕ) (k : ℕ) : Type 0 where
  pub count : k ≡ written xs
  pub places : take k at ≡ labels xs
  pub marks : take k less ≡ values xs

pub labels-many : (xs : List ℕ) → length (labels xs) ≡ written xs
unfolding labels written
labels-many [] = refl
labels-many (zero ∷ xs) = labels-many xs
labels-many (suc x ∷ xs) = ap suc (labels-many xs)

pub values-many : (xs : List ℕ) → length (values xs) ≡ written xs
unfolding values written
values-many [] = refl
values-many (zero ∷ xs) = values-many xs
values-many (suc x ∷ xs) = ap suc (values-many xs)

pub rank-chosen : (xs : List ℕ) → rank xs ≡ ranked (labels xs)
unfolding rank labels ranked
rank-chosen [] = refl
rank-chosen (zero ∷ xs) = rank-chosen xs
rank-chosen (suc x ∷ xs) = rw (labels-many xs, rank-chosen xs)

pub digits-chosen : (b : ℕ) (xs : List ℕ) → digits b xs ≡ plain b (values xs)
unfolding digits values plain
digits-chosen b [] = refl
digits-chosen b (zero ∷ xs) = digits-chosen b xs
digits-chosen b (suc x ∷ xs) = rw (values-many xs, digits-chosen b xs)

pub below_up : (a b : ℕ) (xs : List ℕ) → a ≤ b → Below a xs → Below b xs
below_up a b [] h k = tt
below_up a b (x ∷ xs) h k = (omega (arith, k.0), below_up a b xs h k.1)

-- a label is below the number of places
pub labels-below : (xs : List ℕ) → Below (length xs) (labels xs)
unfolding labels
labels-below [] = tt
labels-below (zero ∷ xs) = below_up (length xs) (suc (length xs)) (labels xs) (omega arith) (labels-below xs)
labels-below (suc x ∷ xs) = (omega arith, below_up (length xs) (suc (length xs)) (labels xs) (omega arith) (labels-below xs))

-- a place to the left of all labels is not written
pub scattered-left : (s : ℕ) (is xs : List ℕ) → Below s is → scattered (suc s) is xs ≡ 0 ∷ scattered s is xs
unfolding scattered
scattered-left s [] xs u = refl
scattered-left s (i ∷ is) [] u = refl
scattered-left s (i ∷ is) (x ∷ xs) u = rw (ne_eqb i s (λ q. omega (arith, u.0)))

-- the place of the first label is written
pub scattered-here : (s : ℕ) (is xs : List ℕ) (x : ℕ) → scattered (suc s) (s ∷ is) (x ∷ xs) ≡ suc x ∷ scattered s is xs
unfolding scattered
scattered-here s is xs x = rw (eq-eqb s s refl)

none-scattered : scattered 0 [] [] ≡ []
unfolding scattered
none-scattered = refl

-- a pattern is what its labels and values make
pub scattered-back : (xs : List ℕ) → scattered (length xs) (labels xs) (values xs) ≡ xs
unfolding labels values
scattered-back [] = none-scattered
scattered-back (zero ∷ xs) = rw (scattered-left (length xs) (labels xs) (values xs) (labels-below xs), scattered-back xs)
scattered-back (suc x ∷ xs) = rw (scattered-here (length xs) (labels xs) (values xs) x, scattered-back xs)
