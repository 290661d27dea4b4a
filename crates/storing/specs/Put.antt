-- Bytes stored one after the other into a lent output (no rule).
use Rattle.std.specs.Prelude.{◌≡◌, cond, List, [], ◌++◌, ℕ, ◌+◌, ◌-◌, leb, length, drop}
use Rattle.std.proofs.lemmas.List.Edits.{sets}

-- `before` with ys stored from place `at` on is `after`; `next` is the place behind them
pub record Put (before after : List ℕ) (at : ℕ) (ys : List ℕ) (next : ℕ) : Type 0 where
  pub stored : after ≡ sets before at ys
  pub ends : next ≡ at + length ys

-- ys, where there is room for them from place `at` on; else nothing
unfoldable pub fitting : List ℕ → ℕ → List ℕ → List ℕ
fitting before at ys = cond (leb (length ys) (length before - at)) ys []

-- `before` with ys at its front
abbrev pub fronted : List ℕ → List ℕ → List ℕ
fronted ys before = ys ++ drop (length ys) before
