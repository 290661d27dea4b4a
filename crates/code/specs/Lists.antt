-- Documents 01 and 02 (RULES 4, 9, 10, 11, 14): what is said of lists of numbers.
use Rattle.std.specs.Prelude.{ℕ, ◌+◌, ◌≤◌, ◌<◌, Bool, true, false, ◌&&◌, List, [], ◌∷◌, eqb}
use Prim.Native.Char.{code}
use Prim.Native.String.{String, [] as nothing, ◌∷◌ as ◌before◌}

-- 01, Dealing; RULES 4: "Values 1 to 2^m − 1": every number is at most b
abbrev pub Upto : ℕ → List ℕ → Type 0
Upto b [] = Unit {0}
Upto b (x ∷ xs) = (x ≤ b) × Upto b xs

-- Demand 3; RULES 14: "numbers in range": every number is below v
abbrev pub Below : ℕ → List ℕ → Type 0
Below v [] = Unit {0}
Below v (x ∷ xs) = (x < v) × Below v xs

-- Demand 3; RULES 14: "count for count, no larger than any": as many numbers, and none of the first list is above its fellow in the second
abbrev pub Rises : List ℕ → List ℕ → Type 0
Rises [] [] = Unit {0}
Rises [] (y ∷ ys) = ⊥
Rises (x ∷ xs) [] = ⊥
Rises (x ∷ xs) (y ∷ ys) = (x ≤ y) × Rises xs ys

-- RULES 9, 11: two lists number for number
unfoldable pub same : List ℕ → List ℕ → Bool
same [] [] = true
same [] (y ∷ ys) = false
same (x ∷ xs) [] = false
same (x ∷ xs) (y ∷ ys) = eqb x y && same xs ys

-- 02, §1, §5; RULES 11, 14: "sum" of a line, "also in the turned counts": what numbers add up to
unfoldable pub list_sum : List ℕ → ℕ
list_sum [] = 0
list_sum (x ∷ xs) = x + list_sum xs

-- 01, Dumps, of `fieldlist`; 02, §1; RULES 10, 11: the bytes of a text
unfoldable pub ascii : String → List ℕ
ascii nothing = []
ascii (c before text) = code c ∷ ascii text
