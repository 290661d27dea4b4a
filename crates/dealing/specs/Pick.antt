-- Document 01, "Dealing numbers to patterns" (RULES 4): the labels alone of the way back.
use Rattle.std.specs.Prelude.{ℕ, zero, suc, ◌-◌, ◌<◌, ◌≡◌, cond, List, [], ◌∷◌, leb}
use Rattle.code.specs.Count.{choose}
use Rattle.counting.specs.Cap.{cap}

-- "The way back goes group by group, from the highest label down": the labels of k written among s places, of rank r
unfoldable pub unranked : ℕ → ℕ → ℕ → List ℕ
unranked zero k r = []
unranked (suc s) zero r = []
unranked (suc s) (suc k) r = cond (leb (choose s (suc k)) r) (s ∷ unranked s k (r - choose s (suc k))) (unranked s (suc k) r)

-- the label that is looked for, of rank r with `left` of them left, is not above this one, whose binomial is `fit`
pub record Candidate (left r label fit : ℕ) : Type 0 where
  pub is : fit ≡ choose label left
  pub small : fit < cap
  pub high : r < choose (suc label) left
