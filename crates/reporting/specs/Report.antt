-- Document 02, §9 (RULES 18): the groups that a report lists, of fields in words.
use Rattle.std.specs.Prelude.{ℕ, ◌-◌, ◌^◌, List}
use Rattle.code.specs.Resume.{freshly}
use Rattle.words.specs.Words.{front_groups}
use Rattle.words.specs.Marks.{groups_in}

-- a 1 for each group of the first n words that is all ones in the second field and not in the first
abbrev pub flags_of : ℕ → ℕ → List ℕ → List ℕ → List ℕ
flags_of m n before after = freshly (2 ^ m - 1) (front_groups m n before) (front_groups m n after)

-- the same of one word
abbrev pub word_flags : ℕ → ℕ → ℕ → List ℕ
word_flags m before after = freshly (2 ^ m - 1) (groups_in m before) (groups_in m after)
