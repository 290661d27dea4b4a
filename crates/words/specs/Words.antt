-- Document 01, "Cells in bytes" (RULES 3): groups of m bits in words. A word holds n groups, the leftmost in its highest bits; its lowest bit is the last bit
-- of its last group.
use Rattle.std.specs.Prelude.{ℕ, zero, suc, ◌*◌, ◌^◌, ◌/◌, ◌%◌, ◌<◌, cond, List, [], ◌∷◌, ◌++◌, eqb, get_or, take}

-- the last n groups of a word, leftmost first
unfoldable pub groups_of : ℕ → ℕ → ℕ → List ℕ
groups_of m zero w = []
groups_of m (suc n) w = w / 2 ^ (m * n) % 2 ^ m ∷ groups_of m n w

-- the groups of words of n groups each
unfoldable pub all_groups : ℕ → ℕ → List ℕ → List ℕ
all_groups m n [] = []
all_groups m n (w ∷ ws) = groups_of m n w ++ all_groups m n ws

-- the bytes of a word, so that its groups fill it, and how many groups that are
unfoldable pub word_bytes : ℕ → ℕ
word_bytes m = cond (eqb m 3) 6 8

unfoldable pub word_groups : ℕ → ℕ
word_groups m = 8 * word_bytes m / m

-- the groups of the first n words, and whether these words have no bit beside their groups
abbrev pub front_groups : ℕ → ℕ → List ℕ → List ℕ
front_groups m n words = all_groups m (word_groups m) (take n words)

abbrev pub Tidy : ℕ → ℕ → List ℕ → Type 0
Tidy m n words = (j : ℕ) → j < n → get_or words j 0 < 2 ^ (8 * word_bytes m)

-- the last n groups of a word w that have a 1 at their lowest bit in the word o, leftmost first
unfoldable pub groups_at : ℕ → ℕ → ℕ → ℕ → List ℕ
groups_at m zero o w = []
groups_at m (suc n) o w = cond (eqb (o / 2 ^ (m * n) % 2) 0) (groups_at m n o w) (w / 2 ^ (m * n) % 2 ^ m ∷ groups_at m n o w)

-- the groups of words of n groups each that the words os mark
unfoldable pub all_at : ℕ → ℕ → List ℕ → List ℕ → List ℕ
all_at m n [] ws = []
all_at m n (o ∷ os) [] = []
all_at m n (o ∷ os) (w ∷ ws) = groups_at m n o w ++ all_at m n os ws

-- the groups of the first n words that are marked
abbrev pub front_at : ℕ → ℕ → List ℕ → List ℕ → List ℕ
front_at m n marks words = all_at m (word_groups m) (take n marks) (take n words)
