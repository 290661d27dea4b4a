-- Document 02, §4 (RULES 2): where the numbers of the stored triangle stand.
use Rattle.std.specs.Prelude.{◌≡◌, ℕ, ◌+◌, ◌*◌, ◌/◌, ◌≤◌}
use Rattle.code.specs.Count.{choose}

-- 02, §4; RULES 2: "rows 0 to 60": what is stored at a place is C(n, k), where that is the place of C(n, k)
abbrev pub Stands : ℕ → ℕ → Type 0
Stands place x = (n k : ℕ) → n ≤ 60 → k ≤ n → place ≡ n * (n + 1) / 2 + k → x ≡ choose n k
