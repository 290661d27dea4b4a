-- Document 01, "Layout" (RULES 2): the cap at which the code stops counting.
use Rattle.std.specs.Prelude.{ℕ, ◌+◌, ◌^◌, min}

-- one above the largest range, 2^56: condition d needs v + 1 told from what is larger
abbrev pub cap : ℕ
cap = 2 ^ 56 + 1

-- x, or the cap where x is above it
abbrev pub sat : ℕ → ℕ
sat x = min x cap
