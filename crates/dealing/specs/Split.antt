-- Document 01, "Dealing numbers to patterns" (RULES 4): a number on its way to its count of written places.
use Rattle.std.specs.Prelude.{ℕ, suc, ◌+◌, ◌*◌, ◌^◌, ◌<◌, ◌≤◌, ◌≡◌}
use Rattle.code.specs.Count.{choose, fewer}
use Rattle.counting.specs.Cap.{cap, sat}

-- a number that has a pattern of s places, with b values for a written one
pub record Dealt (b first s n : ℕ) : Type 0 where
  pub places : s ≤ 256
  pub values : 0 < b
  pub few : b ≤ 15
  pub lead : first ≤ 1
  pub small : n < cap
  pub within : n < fewer b s first (suc s)

-- the places of a number: what is left of it lies past the patterns with fewer than k written places
pub record Splitting (b first s n k power term rest : ℕ) : Type 0 where
  pub some : 0 < k
  pub from : first ≤ k
  pub to : k ≤ s
  pub number : n ≡ fewer b s first k + rest
  pub power-is : power ≡ b ^ k
  pub term_is : term ≡ sat (choose s k * b ^ k)
