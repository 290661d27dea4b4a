-- Document 01, "Writing", and the demands (RULES 14): a sequence of writes, each tried in turn, of which a refused one stores nothing.
use Rattle.std.specs.Prelude.{ℕ, zero, suc, ◌+◌, List, [], ◌∷◌}
use Rattle.code.specs.Field.{Writing, refused, wrote}

-- Demand 1; RULES 14: "a refused write turns no cell"
unfoldable pub kept : List ℕ → Writing → List ℕ
kept cells refused = cells
kept cells (wrote i after) = after

-- Demand 3; RULES 14: "any sequence of numbers", each tried in turn, where `leaves x cells` is left by one try
unfoldable pub run : (ℕ → List ℕ → List ℕ) → List ℕ → List ℕ → List ℕ
run leaves cells [] = cells
run leaves cells (x ∷ xs) = run leaves (leaves x cells) xs

-- 01, Writing; RULES 14: "Over any run .. the turned counts add up"
unfoldable pub total : (ℕ → List ℕ → ℕ) → (ℕ → List ℕ → List ℕ) → List ℕ → List ℕ → ℕ
total counts leaves cells [] = 0
total counts leaves cells (x ∷ xs) = counts x cells + total counts leaves (leaves x cells) xs

-- Demand 3; RULES 14: "the zeros that open the sequence", which leave the cells blank where generation 1 may write no place
unfoldable pub opening_zeros : ℕ → List ℕ → ℕ
opening_zeros zero [] = 0
opening_zeros zero (zero ∷ xs) = suc (opening_zeros zero xs)
opening_zeros zero (suc x ∷ xs) = 0
opening_zeros (suc first) xs = 0
