-- Document 01, "Layout" (RULES 2): a sum of patterns on its way up.
use Rattle.std.specs.Prelude.{ℕ, suc, ◌*◌, ◌^◌, ◌<◌, ◌≤◌, ◌≡◌}
use Rattle.code.specs.Count.{choose, fewer}
use Rattle.counting.specs.Cap.{cap}

-- the sum so far and its last term; j is the last written count in it
pub record SumSoFar (b s first k term sum j : ℕ) : Type 0 where
  pub low : first ≤ j
  pub more : j < k
  pub is-term : term ≡ choose s j * b ^ j
  pub is_sum : sum ≡ fewer b s first (suc j)
  pub within : term ≤ sum
  pub small : sum < cap
