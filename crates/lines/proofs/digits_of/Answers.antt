use Rattle.std.proofs.Common.{ℕ, replicate, IsAscii, arith, inl, inr}
use Rattle.std.proofs.lemmas.Bool.{cases_lt}
use Rattle.std.proofs.lemmas.List.{get_or-replicate, get_or_past, length-replicate}
use Rattle.lines.proofs.digits_of.Goals as goal

-- nothing but zeros is text
zeros-ascii : (n : ℕ) → IsAscii (replicate n 0)
zeros-ascii n i = elim (cases_lt i n) [
  | inl within ↦ omega (arith, get_or-replicate {A = ℕ} n i 0 0 within)
  | inr past ↦ omega (arith, get_or_past {X = ℕ} (replicate n 0) i 0 (simp (length-replicate {A = ℕ}) past))
]

pub loop-i-init : goal.loop-i-init
loop-i-init c = zeros-ascii 64
