-- A text handed out piece by piece (no rule).
use Rattle.std.specs.Prelude.{ℕ, ◌≡◌, List, ◌++◌, drop}

-- the text from a place on begins with a piece
pub record Part (text : List ℕ) (at : ℕ) (piece : List ℕ) : Type 0 where
  pub rest : List ℕ
  pub begins : drop at text ≡ piece ++ rest
