-- Document 01, "Layout" and "Dealing numbers to patterns" (RULES 2, 4): binomials, how many patterns write few places, and the first number that passes a test.
use Rattle.std.specs.Prelude.{ℕ, zero, suc, ◌+◌, ◌*◌, ◌^◌, Bool, true, false, cond, leb}

-- 01, Dealing; RULES 2: "C(n, k) is 0 where k is above n"; Pascal's rule
unfoldable pub choose : ℕ → ℕ → ℕ
choose n zero = 1
choose zero (suc k) = 0
choose (suc n) (suc k) = choose n k + choose n (suc k)

-- 01, Layout, b and c; RULES 2, 4: the sum of C(s, j)·b^j over j from `first` to k − 1, which counts the patterns of s places that write so many of them, each
-- with one of b values
unfoldable pub fewer : ℕ → ℕ → ℕ → ℕ → ℕ
fewer b s first zero = 0
fewer b s first (suc k) = fewer b s first k + cond (leb first k) (choose s k * b ^ k) 0

-- 01, Layout; RULES 2: "the least" number from `from` on that passes the test, or from + fuel where none before it does
unfoldable pub least : (ℕ → Bool) → ℕ → ℕ → ℕ
least test from zero = from
least test from (suc fuel) = elim (test from) [ true ↦ from | false ↦ least test (suc from) fuel ]
