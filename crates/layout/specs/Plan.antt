-- Document 01, "Layout" (RULES 2): a layout worked out, and what is known where it is granted.
use Rattle.std.specs.Prelude.{ℕ, ◌<◌, ◌≤◌, ◌≡◌, List, [], ◌∷◌, length, get_or, take, replicate, Result, Ok, Err}
use Rattle.code.specs.declared.Shape.{Shape}
use Rattle.code.specs.declared.Refusal.{Refusal}
use Rattle.code.specs.declared.Refusal.TheVariants.{Bounds as BoundsRefusal, NoRoom as NoRoomRefusal}
use Rattle.code.specs.Refusals.{number_of}
use Rattle.code.specs.Shape.{counts_of}
use Rattle.shapes.specs.Outlines.{outlined}
use Rattle.code.proofs.LayoutCall.{Bounds}
use Rattle.code.specs.Calls.{filled, layout_fields, layout_refusal, layout_reply}
use Rattle.layout.specs.declared.Plan.{Plan}
use Rattle.layout.specs.declared.Ungranted.{Ungranted}
use Rattle.layout.specs.declared.Ungranted.TheVariants.{Bounds as BoundsUngranted, NoRoom}

-- RULES 12: the refusal of a layout that is not granted
abbrev pub ungranted_as : Ungranted → Refusal
ungranted_as BoundsUngranted = BoundsRefusal
ungranted_as NoRoom = NoRoomRefusal

-- RULES 12: the number of a refusal, 0 where there is none
abbrev pub number_or_0 : Result Unit Ungranted → ℕ
number_or_0 (Ok granted) = 0
number_or_0 (Err e) = number_of (ungranted_as e)

-- RULES 2, 13: the seventeen numbers of a layout's answer: 0 and the counts, or the refusal
abbrev pub laid_of : Result (List ℕ) Refusal → List ℕ
laid_of (Ok h) = 0 ∷ h
laid_of (Err k) = number_of k ∷ replicate 16 0

-- it is that of its outline with the ranges v, with g = 256, and h holds its counts
pub record Planned (p : Plan) (v h : List ℕ) : Type 0 where
  pub right : number_or_0 p.laid ∷ h ≡ filled layout_fields (layout_reply (outlined p.outline v) 256)

-- a shape is within its bounds, and h holds its granted counts and 0 behind them
pub record Granted (s : Shape) (h : List ℕ) : Type 0 where
  pub ok : layout_refusal s 256 ≡ []
  pub bounds : Bounds s
  pub list : take s.t h ≡ counts_of s
  pub many : length (counts_of s) ≡ s.t
  pub each : (n : ℕ) → get_or h n 0 ≡ get_or (counts_of s) n 0
  pub small : (n : ℕ) → get_or h n 0 ≤ 256
  pub some : 0 < get_or h 0 0
