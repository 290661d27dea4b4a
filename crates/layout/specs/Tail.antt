-- Document 01, "Layout" (RULES 2): the list as it is filled, from its last count to its first.
use Rattle.std.specs.Prelude.{ℕ, ◌+◌, ◌-◌, ◌<◌, ◌≤◌, ◌≡◌, List, ◌++◌, length, get_or, drop, replicate}
use Rattle.code.specs.Layout.{counts}
use Rattle.climbing.specs.Climb.{Cut}

-- a goal on the way through the generations: its cut, and where one range holds for all, one more than that range
pub record Aimed (b form range need cut : ℕ) : Type 0 where
  pub cuts : Cut b need cut
  pub single : (form ≡ 2 → ⊥) → need ≡ range + 1

-- the list h of t counts for the ranges vs once the places from i on are filled, low being the count at place i, and 0 before any is
pub record Tail (g e t : ℕ) (vs : List ℕ) (i low : ℕ) (h : List ℕ) : Type 0 where
  pub wide : 0 < e
  pub many : length vs ≡ t
  pub within : i ≤ t
  pub is : h ≡ replicate i 0 ++ (counts g e (e - 1) 1 (drop i vs) ++ replicate (16 - t) 0)
  pub head : low ≡ get_or (counts g e (e - 1) 1 (drop i vs)) 0 0

-- the counts behind the first: where low is below g, the list has them, low being that of generation 2, and else no list fits
pub record Behind (g e t : ℕ) (vs : List ℕ) (low : ℕ) (h : List ℕ) : Type 0 where
  pub some : low < g → 0 < low
  pub stored : low < g → Tail g e t vs 1 low h
  pub crowded : g ≤ low → (b first : ℕ) → g < get_or (counts g e b first vs) 0 0
