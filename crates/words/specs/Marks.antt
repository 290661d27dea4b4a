-- Document 01, "Cells in bytes" (RULES 3): marks, which are words that have a 1 at the lowest bit of some of their groups, and no other bit.
use Rattle.std.specs.Prelude.{ℕ, zero, suc, ◌+◌, ◌*◌, ◌-◌, ◌^◌, ◌/◌, ◌%◌, ◌≤◌, ◌<◌, ◌≡◌, Bool, cond, not, List, [], ◌∷◌, ◌++◌, eqb, length, get_or, take, drop}
use Rattle.std.specs.Int.Bits.{bit_and, bit_or}
use Rattle.std.specs.Int.Count.{ones, count_leading_zeros}
use Rattle.code.proofs.Chosen.{Chosen, pattern_most, labels, values, scattered}
use Rattle.code.specs.Field.{zeros, unerased, lay}
use Rattle.code.proofs.Groups.{erase}
use Rattle.code.specs.Lists.{Below, Upto}
use Rattle.words.specs.Words.{groups_of, word_bytes, word_groups, front_groups, front_at, Tidy}
use Rattle.words.specs.declared.Seen.{Seen}

-- n groups of m bits, from the last to the first, each with a mark or without
pub data Marked (m : ℕ) : ℕ → ℕ → Type 0 where
  bare : Marked m 0 0
  skip : {n o : ℕ} → Marked m n o → Marked m (suc n) o
  mark : {n o : ℕ} → Marked m n o → Marked m (suc n) (2 ^ (m * n) + o)

-- a word of marks, and words whose first n are
abbrev pub Marks : ℕ → ℕ → Type 0
Marks m o = Marked m (word_groups m) o

abbrev pub AllMarks : ℕ → ℕ → List ℕ → Type 0
AllMarks m n os = (j : ℕ) → j < n → Marks m (get_or os j 0)

-- the marks of all of n groups
unfoldable pub lows : ℕ → ℕ → ℕ
lows m zero = 0
lows m (suc n) = 2 ^ (m * n) + lows m n

-- the marks of the groups that pass a test
unfoldable pub marks_of : ℕ → (ℕ → Bool) → List ℕ → ℕ
marks_of m test [] = 0
marks_of m test (g ∷ gs) = cond (test g) 1 0 * 2 ^ (m * length gs) + marks_of m test gs

-- the tests: a group of all zeros, one that is not, one of all ones, and one that is not
abbrev pub zero_group : ℕ → Bool
zero_group g = eqb g 0

abbrev pub nonzero_group : ℕ → Bool
nonzero_group g = not (eqb g 0)

abbrev pub erased_group : ℕ → ℕ → Bool
erased_group e g = eqb g e

abbrev pub open_group : ℕ → ℕ → Bool
open_group e g = not (eqb g e)

-- or and and of the first and the last two bits of each group of m bits, m from 2 to 4, at its lowest bit; the other bits say nothing
abbrev pub either : ℕ → ℕ → ℕ
either m w = bit_or (bit_or w (w / 2)) (bit_or w (w / 2) / 2 ^ (m - 2))

abbrev pub both : ℕ → ℕ → ℕ
both m w = bit_and (bit_and w (w / 2)) (bit_and w (w / 2) / 2 ^ (m - 2))

-- the groups of a word of the code
abbrev pub groups_in : ℕ → ℕ → List ℕ
groups_in m w = groups_of m (word_groups m) w

-- how many groups of a word, and of the first n words, are zero
abbrev pub blanks_in : ℕ → ℕ → ℕ
blanks_in m w = zeros (groups_in m w)

abbrev pub blanks_to : ℕ → ℕ → List ℕ → ℕ
blanks_to m n words = zeros (front_groups m n words)

-- all marks of a word, and those of a word's groups that pass a test
abbrev pub word_lows : ℕ → ℕ
word_lows m = lows m (word_groups m)

abbrev pub word_marks : ℕ → (ℕ → Bool) → ℕ → ℕ
word_marks m test w = marks_of m test (groups_in m w)

-- f of the place of each mark, leftmost first
unfoldable pub picked : (ℕ → ℕ) → ℕ → ℕ → ℕ → List ℕ
picked f m zero o = []
picked f m (suc n) o = cond (eqb (o / 2 ^ (m * n) % 2) 0) (picked f m n o) (f (m * n) ∷ picked f m n o)

-- the group whose mark stands at place p of a word
abbrev pub group_in : ℕ → ℕ → ℕ → ℕ
group_in m w p = w / 2 ^ p % 2 ^ m

-- its value less 1, and its label among the marked groups, with so many places to the right of the word
abbrev pub less_in : ℕ → ℕ → ℕ → ℕ
less_in m w p = group_in m w p - 1

abbrev pub label_in : ℕ → ℕ → ℕ → ℕ
label_in right o p = right + ones (o % 2 ^ p)

-- the marks of the groups that are not zero, of those that are marked
abbrev pub written_marks : ℕ → ℕ → ℕ → ℕ
written_marks m o w = bit_and (word_marks m nonzero_group w) o

-- the labels and the values less 1 at these marks
abbrev pub written_labels : ℕ → ℕ → ℕ → ℕ → List ℕ
written_labels m w o right = picked (label_in right o) m (word_groups m) (written_marks m o w)

abbrev pub written_less : ℕ → ℕ → ℕ → List ℕ
written_less m w o = picked (less_in m w) m (word_groups m) (written_marks m o w)

-- the place of a word's highest one
abbrev pub top_of : ℕ → ℕ
top_of x = 63 - count_leading_zeros 64 x

-- a number without its highest ones, so many of them
unfoldable pub stripped : ℕ → ℕ → ℕ
stripped zero x = x
stripped (suc n) x = stripped n x - 2 ^ top_of (stripped n x)

-- what is seen of the first n words: how many of their groups are zero, how many are not all ones, and which
pub record Viewed (m n : ℕ) (words os : List ℕ) (r : Seen) : Type 0 where
  pub long : length os ≡ 16
  pub blank : r.zeros ≡ zeros (front_groups m n words)
  pub many : r.unerased ≡ length (unerased (2 ^ m - 1) (front_groups m n words))
  pub marks : AllMarks m n os
  pub held : front_at m n os words ≡ unerased (2 ^ m - 1) (front_groups m n words)

-- h groups that end in the last of n words
pub record Ends (m n h : ℕ) : Type 0 where
  pub wide : 2 ≤ m
  pub narrow : m ≤ 4
  pub some : 0 < n
  pub few : n ≤ 16
  pub above : word_groups m * (n - 1) < h
  pub below : h ≤ word_groups m * n

-- marks of the first h groups of n words
pub record Fronted (m n h : ℕ) (os : List ℕ) : Type 0 where
  pub long : length os ≡ 16
  pub marks : AllMarks m n os
  pub held : (words : List ℕ) → length words ≡ 16 → front_at m n os words ≡ take h (front_groups m n words)

-- the bytes of an array before r are those before `at` and then the list xs
pub record Added (xs before after : List ℕ) (at r : ℕ) : Type 0 where
  pub long : length after ≡ pattern_most
  pub count : r ≡ at + length xs
  pub made : take r after ≡ take at before ++ xs

-- the first r bytes of an array are the list xs
pub record ListedValues (xs after : List ℕ) (r : ℕ) : Type 0 where
  pub long : length after ≡ pattern_most
  pub count : r ≡ length xs
  pub made : take r after ≡ xs

-- the first n words and marks of at most 256 of their groups
pub record Pickable (m n : ℕ) (words os : List ℕ) : Type 0 where
  pub wide : 2 ≤ m
  pub narrow : m ≤ 4
  pub few : n ≤ 16
  pub long : length words ≡ 16
  pub room : length os ≡ 16
  pub marks : AllMarks m n os
  pub most : length (front_at m n os words) ≤ 256

-- marks of groups of w that are not zero and have labels of a byte among the marks o, with so many places to their right
pub record Leftover (m w o right left : ℕ) : Type 0 where
  pub wide : 2 ≤ m
  pub narrow : m ≤ 4
  pub marks : Marks m left
  pub small : Below 256 (picked (label_in right o) m (word_groups m) left)
  pub some : zeros (picked (group_in m w) m (word_groups m) left) ≡ 0

-- RULES 4: the written places of xs in two arrays of bytes
pub record Gathered (xs at less : List ℕ) (k : ℕ) : Type 0 where
  pub chosen : Chosen xs at less k
  pub long : length at ≡ pattern_most
  pub room : length less ≡ pattern_most

-- the first n words have their groups' bits alone, and the marks of their zero groups
pub record ZeroMarked (m n : ℕ) (words os : List ℕ) : Type 0 where
  pub wide : 2 ≤ m
  pub narrow : m ≤ 4
  pub few : n ≤ 16
  pub long : length words ≡ 16
  pub room : length os ≡ 16
  pub tidy : Tidy m n words
  pub marked : (j : ℕ) → j < n → get_or os j 0 ≡ word_marks m zero_group (get_or words j 0)

-- RULES 6: the first n words after erasing
pub record Erased (m n spare : ℕ) (before after os : List ℕ) : Type 0 where
  pub ready : ZeroMarked m n after os
  pub made : front_groups m n after ≡ erase (2 ^ m - 1) spare (front_groups m n before)

-- a word of groups, and the marks of those that are zero
pub record Blanks (m w o : ℕ) : Type 0 where
  pub wide : 2 ≤ m
  pub narrow : m ≤ 4
  pub tidy : w < 2 ^ (8 * word_bytes m)
  pub marked : o ≡ word_marks m zero_group w

-- RULES 6: the word with values laid into its zero groups
pub record WordLaid (m w : ℕ) (ps : List ℕ) (r : ℕ) : Type 0 where
  pub tidy : r < 2 ^ (8 * word_bytes m)
  pub made : groups_in m r ≡ lay (groups_in m w) ps

-- RULES 6: the first n words with a pattern laid into their zero groups
pub record Layered (m n : ℕ) (ps before after : List ℕ) : Type 0 where
  pub long : length after ≡ 16
  pub tidy : Tidy m n after
  pub made : front_groups m n after ≡ lay (front_groups m n before) ps

-- RULES 4: the labels and the values less 1 from `at` to k are those of the pattern rs, of so many places
pub record Remaining (m : ℕ) (at less : List ℕ) (k i next : ℕ) (rs : List ℕ) : Type 0 where
  pub long : length rs ≡ next
  pub places : drop i (take k at) ≡ labels rs
  pub marks : drop i (take k less) ≡ values rs
  pub small : Upto (2 ^ m - 1) rs

-- RULES 4: the pattern of s places that k labels and values less 1 give, and that of the last of them
abbrev pub pattern_of : ℕ → List ℕ → List ℕ → ℕ → List ℕ
pattern_of s at less k = scattered s (take k at) (take k less)

abbrev pub rest_of : List ℕ → List ℕ → ℕ → ℕ → ℕ → List ℕ
rest_of at less k i next = scattered next (drop i (take k at)) (drop i (take k less))

-- RULES 4, 6: the first places of that rest are laid into the word w, and those before `right` are left
pub record Scattered (m w right : ℕ) (at less : List ℕ) (k i next r j : ℕ) : Type 0 where
  pub within : j ≤ k
  pub here : WordLaid m w (take (blanks_in m w) (rest_of at less k i next)) r
  pub rest : Remaining m at less k j right (drop (blanks_in m w) (rest_of at less k i next))
