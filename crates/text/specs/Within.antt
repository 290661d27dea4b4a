-- Document 01, "Dumps", of `fieldlist` (RULES 10): text stored into a lent output that has room for the longest text of its kind.
use Rattle.std.specs.Prelude.{List, ℕ, ◌+◌, ◌≤◌}
use Rattle.storing.specs.Put.{Put}

-- the most bytes of each line: a serial, a generation, a number and the writes left; a serial and its refusal; the last line; the two lines of a stop;
-- the only line of a dump that is too long
abbrev pub reading_line : ℕ
reading_line = 84

abbrev pub refusal_line : ℕ
refusal_line = 50

abbrev pub closing_line : ℕ
closing_line = 29

abbrev pub stopping_lines : ℕ
stopping_lines = 63

abbrev pub oversize_line : ℕ
oversize_line = 10

-- ys are stored, which are at most `most` bytes
pub record PutWithin (most : ℕ) (before after : List ℕ) (at : ℕ) (ys : List ℕ) (next : ℕ) : Type 0 where
  pub put : Put before after at ys next
  pub few : next ≤ at + most
