-- Document 01, "Dealing numbers to patterns" (RULES 2): the numerator of a binomial.
use Rattle.std.specs.Prelude.{ℕ, zero, suc, ◌-◌, ◌*◌}

-- n · (n − 1) · .., k factors
unfoldable pub falling : ℕ → ℕ → ℕ
falling n zero = 1
falling n (suc k) = falling n k * (n - k)
