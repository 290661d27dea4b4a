-- Document 01, "Layout" (RULES 2): what a climb to a count finds, and what it knows on its way.
use Rattle.std.specs.Prelude.{ℕ, suc, ◌+◌, ◌-◌, ◌*◌, ◌^◌, ◌<◌, ◌≤◌, ◌≡◌}
use Rattle.code.specs.Count.{choose, fewer}
use Rattle.counting.specs.Cap.{cap}

-- the patterns of x groups that leave low of them zero, from `first` written places on: the sums of b and c
abbrev pub held : ℕ → ℕ → ℕ → ℕ → ℕ
held b first low x = fewer b x first (suc (x - low))

-- r is the first number above low at which f, which grows, is at least v
pub record Least (f : ℕ → ℕ) (v low r : ℕ) : Type 0 where
  pub above : low < r
  pub short : f (r - 1) < v
  pub enough : v ≤ f r

-- d places above low: the patterns of at most d written places, those of d + 1 before the value of the last is chosen, and what these go up by
pub record Climbed (b low d all more scale : ℕ) : Type 0 where
  pub is_all : all ≡ fewer b (low + d) 0 (suc d)
  pub is-more : more ≡ choose (low + d) (suc d) * b ^ d
  pub is-scale : scale ≡ (low + suc d) * b
  pub near : d ≤ cap
  pub far : d < all
  pub wide : low + d < all + more
  pub fits : all + more < 2 ^ 64

-- cut is the least number whose product with b is at least need
pub record Cut (b need cut : ℕ) : Type 0 where
  pub enough : need ≤ cut * b
  pub least : cut * b < need + b

-- what a climb is asked for: need patterns above low, of b values for a written place
pub record Asked (b low need cut : ℕ) : Type 0 where
  pub values : 0 < b
  pub few : b ≤ 15
  pub within : low ≤ 255
  pub some : 2 ≤ need
  pub most : need ≤ cap
  pub cuts : Cut b need cut

-- one place fewer than d is not enough
abbrev pub Short : ℕ → ℕ → ℕ → ℕ → Type 0
Short b low need d = fewer b (low + (d - 1)) 0 d < need
