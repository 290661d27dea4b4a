-- Document 02, §7 (RULES 13): a listed layout in the fields of its struct.
use Rattle.std.specs.Prelude.{ℕ, ◌<◌, ◌≡◌, List, ◌∷◌, get_or, replicate, Result, Ok, Err}
use Rattle.code.specs.declared.Refusal.{Refusal}
use Rattle.code.specs.declared.Shape.{Shape}
use Rattle.code.specs.Calls.{filled}
use Rattle.code.specs.NewDump.{listed_fields}
use Rattle.code.specs.Refusals.{refusal_reply}
use Rattle.dump.specs.declared.listed.ListedShape.{ListedShape}

-- the numbers of a listed layout, or of the refusal and what it carries, 0 behind them
abbrev pub listed_of : Result Shape Refusal → List ℕ
listed_of (Ok s) = 0 ∷ s.form ∷ s.m ∷ s.t ∷ s.count ∷ s.v
listed_of (Err k) = filled listed_fields (refusal_reply k)

abbrev pub listed_numbers_of : ListedShape → List ℕ
listed_numbers_of r = r.refusal ∷ r.shape.form ∷ r.shape.m ∷ r.shape.t ∷ r.shape.count ∷ r.shape.v

-- a refusal of this call carries nothing but 0
abbrev pub Listing : List ℕ → Type 0
Listing reply = 0 < get_or reply 0 0 → filled listed_fields reply ≡ get_or reply 0 0 ∷ replicate 20 0
