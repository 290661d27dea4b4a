-- The limits of what the lines are made of (no rule).
use Rattle.std.specs.Prelude.{ℕ}

-- the most fields of a write of many numbers that are told
abbrev pub outcomes_most : ℕ
outcomes_most = 64
